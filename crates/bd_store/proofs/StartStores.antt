-- The store before the first entry of a script.
use Rattle.std.proofs.Common.{◌≡◌, ℕ, ◌<◌, ◌∙◌, List, [], ◌∷◌, Option, None, get_or, map, replicate, refl, ap, arith, inl, inr}
use Rattle.std.specs.Prelude.{All}
use Rattle.std.proofs.lemmas.Bool.{cases_order}
use Rattle.std.proofs.lemmas.List.{get_or-replicate, get_or_past, length-replicate}
use Rattle.std.proofs.lemmas.List.Elements.{All-map}
use Rattle.bd_base.specs.declared.limits.TheConstants.{DESCRIPTORS, USERS}
use Rattle.bd_base.specs.declared.script.Process.{Process}
use Rattle.bd_base.specs.declared.script.Script.{Script}
use Rattle.bd_base.specs.declared.volume.Volume.{Volume}
use Rattle.bd_base.specs.Scripts.{IsProcess}
use Rattle.bd_entry.specs.declared.entry.Entry.{Entry}
use Rattle.bd_entry.specs.Store.{Descriptor, Store, start_store}
use Rattle.bd_store.specs.Kept.{start_of}

-- a list of one value has it everywhere
pub replicate_at : {X : Type 0} (x : X) (n q : ℕ) → get_or (replicate n x) q x ≡ x
replicate_at x n q =
    elim (cases_order q n) [
      | inl same ↦ get_or_past (replicate n x) q x (omega (arith, length-replicate n x))
      | inr order ↦
          elim order [
            | inl below ↦ get_or-replicate n q x x below
            | inr above ↦ get_or_past (replicate n x) q x (omega (arith, length-replicate n x))
          ]
    ]

-- the users of the processes
abbrev pub uids_of : List Process → List ℕ
uids_of processes = map (λ (p : Process). p.uid) processes

abbrev idle : ℕ → Process
idle uid = record { uid = uid; calls = [] }

uids-same : (processes : List Process) → uids_of (map idle (uids_of processes)) ≡ uids_of processes
uids-same [] = refl
uids-same (p ∷ processes) = ap (λ uids. p.uid ∷ uids) (uids-same processes)

rows-same : {X : Type 0} (x : X) (processes : List Process) →
    map (λ (p : Process). x) (map idle (uids_of processes)) ≡ map (λ (p : Process). x) processes
rows-same x [] = refl
rows-same x (p ∷ processes) = ap (λ rows. x ∷ rows) (rows-same x processes)

abbrev started : Volume → List ℕ → List (List (Option Descriptor)) → List (List Entry) → Store
started v uids opens work = record { total = v.total; uids = uids; files = v.inodes; bytes = v.bytes; opens = opens; work = work }

-- is that of its users
pub start_of-users : (v : Volume) (script : Script) → start_of v (uids_of script.processes) ≡ start_store v script
start_of-users v script =
    let users = uids_of script.processes in
    let idle_ones = map idle users in
    ap (λ uids. started v uids (map (λ (p : Process). replicate DESCRIPTORS None) idle_ones) (map (λ (p : Process). []) idle_ones)) (uids-same script.processes)
    ∙ ap (λ rows. started v users rows (map (λ (p : Process). []) idle_ones)) (rows-same (replicate DESCRIPTORS None) script.processes)
    ∙ ap (λ rows. started v users (map (λ (p : Process). replicate DESCRIPTORS None) script.processes) rows) (rows-same [] script.processes)

-- the users of processes within the limits are within them
pub users_within : (processes : List Process) → All IsProcess processes → All (λ uid. uid < USERS) (uids_of processes)
users_within processes all = All-map (λ uid. uid < USERS) (λ (p : Process). p.uid) processes (λ k d within. (all k d within).uid)
