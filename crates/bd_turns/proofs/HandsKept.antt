-- Engines with a command in hand walk for its request, and the others are idle, through turns that leave hands and walks.
use Rattle.std.proofs.Common.{◌≡◌, inl, inr, ℕ, List, [], ◌∷◌, ◌++◌, Option, None, Some, refl, sym, ap, ◌∙◌}
use Rattle.std.specs.Prelude.{slice_index_or}
use Rattle.std.specs.Option.{option_and_then, option_map, option_map_or}
use Rattle.bd_base.specs.declared.journal.At.{At}
use Rattle.bd_base.specs.declared.script.Call.{Call}
use Rattle.bd_base.specs.Pieces.{Piece}
use Rattle.bd_entry.specs.declared.entry.Entry.{Entry}
use Rattle.bd_entry.specs.declared.entry.Entry.TheVariants as entries
use Rattle.bd_entry.specs.Calls.{Place, fd_of, fd_of_call, piece_of_call}
use Rattle.bd_entry.specs.Refusals.{file_of}
use Rattle.bd_entry.specs.Store.{Descriptor, Store, descriptor_at}
use Rattle.bd_tables.specs.declared.request.Request.{Request}
use Rattle.bd_tables.specs.declared.state.Walk.{Walk}
use Rattle.bd_tables.specs.State.{TableState, walk_at}
use Rattle.bd_turns.specs.declared.turn.Row.{Row}
use Rattle.bd_turns.specs.declared.turn.Row.TheVariants as rows
use Rattle.bd_turns.specs.Engines.{request_for, request_of_piece}
use Rattle.bd_turns.specs.Sound.{IsIdleWithout, IsWalkAt, IsWalkFor}
use Rattle.bd_turns.specs.State.{InHand, Phase, Looking, Reading, Filling, Moving, Missing, Retiring, Completing, Posted, Progress, State, new_progress, progress_of, running, with_progress}
use Rattle.bd_turns.specs.Turns.{after_adding, after_effect, after_polling, after_posting, after_submitting, attached_tables, grown_tables, tables_after, with_entry, with_hold}
use Rattle.bd_turns.proofs.HandFrames.{IsSameCall, ended_after_effect, hands_after_effect, progress_kept, runs_still}
use Rattle.bd_turns.proofs.PieceCalls.{fd_of_pieces}
use Rattle.bd_turns.proofs.TablesOfSteps.{is_request}

-- ---- turns that leave hands and walks

-- the hands and the walks stay, and no call ends whose process has a command in its engine's hand
pub record IsCalm (m next : State) : Type 0 where
  pub script : next.script ≡ m.script
  pub hands : (q : ℕ) → (progress_of next q).hand ≡ (progress_of m q).hand
  pub ended : (q : ℕ) (hand : InHand) → (progress_of m q).hand ≡ Some hand → (progress_of next q).ended ≡ (progress_of m q).ended
  pub walks : next.tables.walks ≡ m.tables.walks

-- a state with the same script, processes and walks
pub record IsAlikeBeside (m base : State) : Type 0 where
  pub script : base.script ≡ m.script
  pub processes : base.processes ≡ m.processes
  pub walks : base.tables.walks ≡ m.tables.walks

same_progress : (m base : State) → IsAlikeBeside m base → (q : ℕ) → progress_of base q ≡ progress_of m q
same_progress m base alike q = ap (λ (all : List Progress). slice_index_or all q new_progress) alike.processes

-- the end of a turn that changed the progress of its process beside the hand is calm
pub calm_row : (m base : State) (p : Place) (progress : Progress) → IsAlikeBeside m base →
    progress.hand ≡ (progress_of base p.at.process).hand → progress.ended ≡ (progress_of base p.at.process).ended →
    IsCalm m (after_effect (with_progress base p.at.process progress) p)
calm_row m base p progress alike hand ended =
    let mid = with_progress base p.at.process progress in
    let hands = λ (q : ℕ). progress_kept (λ (x : Progress). x.hand) base p.at.process progress hand q
    ∙ ap (λ (x : Progress). x.hand) (same_progress m base alike q) in
    record {
      script = alike.script;
      hands = λ q. hands_after_effect mid p q ∙ hands q;
      ended = λ q in_hand is.
          ended_after_effect mid p q in_hand (hands q ∙ is)
          ∙ progress_kept (λ (x : Progress). x.ended) base p.at.process progress ended q
          ∙ ap (λ (x : Progress). x.ended) (same_progress m base alike q);
      walks = alike.walks;
    }

-- so is one that changed none
pub calm_effect : (m base : State) (p : Place) → IsAlikeBeside m base → IsCalm m (after_effect base p)
calm_effect m base p alike = record {
  script = alike.script;
  hands = λ q. hands_after_effect base p q ∙ ap (λ (x : Progress). x.hand) (same_progress m base alike q);
  ended = λ q in_hand is.
      ended_after_effect base p q in_hand (ap (λ (x : Progress). x.hand) (same_progress m base alike q) ∙ is)
      ∙ ap (λ (x : Progress). x.ended) (same_progress m base alike q);
  walks = alike.walks;
}

-- no entry of a processor changes a walk
walks_attached : (s : Store) (tables : TableState) (process fd part : ℕ) (slot : Option Descriptor) →
    (option_map_or (attached_tables s tables process fd part) slot tables).walks ≡ tables.walks
walks_attached s tables process fd part None = refl
walks_attached s tables process fd part (Some d) = refl

walks_grown : (s : Store) (tables : TableState) (file to : ℕ) (block : Option ℕ) → (grown_tables s tables file to block).walks ≡ tables.walks
walks_grown s tables file to None = refl
walks_grown s tables file to (Some block) = refl

pub walks_after : (s : Store) (tables : TableState) (e : Entry) → (tables_after s tables e).walks ≡ tables.walks
walks_after s tables (entries.Attached at fd part) = walks_attached s tables at.process fd part (descriptor_at s at.process fd)
walks_after s tables (entries.Cleared at owner fd part) = refl
walks_after s tables (entries.Extended at file to block) = walks_grown s tables file to block
walks_after s tables e = refl

pub calm_adding : (m : State) (p : Place) (row : Row) (e : Entry) → IsCalm m (after_adding m p row e)
calm_adding m p row e =
    let entered = with_entry m p.call e p.at in
    let base = record entered { tables = tables_after entered.store m.tables e } in
    calm_row m base p (with_hold p.call row (file_of m.store p) (progress_of base p.at.process))
    (record { script = refl; processes = refl; walks = walks_after entered.store m.tables e }) refl refl

pub calm_posting : (m : State) (p : Place) (post : Posted) → IsCalm m (after_posting m p post)
calm_posting m p post =
    let base = record m { posted = m.posted ++ post ∷ [] } in
    calm_row m base p (with_hold p.call rows.Post (file_of m.store p) (progress_of base p.at.process))
    (record { script = refl; processes = refl; walks = refl }) refl refl

pub calm_submitting : (m : State) (p : Place) (piece : ℕ) → IsCalm m (after_submitting m p piece)
calm_submitting m p piece = calm_row m m p _ (record { script = refl; processes = refl; walks = refl }) refl refl

pub calm_polling : (m : State) (p : Place) → IsCalm m (after_polling m p)
calm_polling m p = calm_row m m p _ (record { script = refl; processes = refl; walks = refl }) refl refl

-- ---- the requests of one call

request_made : (p : Place) (number fd : ℕ) (piece : Piece) → fd_of p ≡ Some fd → piece_of_call p.call number ≡ Some piece →
    request_of_piece p number ≡ Some (request_for p fd piece)
request_made p number fd piece fd_is piece_is =
    ap (option_and_then (λ fd. option_map (request_for p fd) (piece_of_call p.call number))) fd_is
    ∙ ap (option_map (request_for p fd)) piece_is

-- another place of the same call asks for the same
pub same_request_of : (p other : Place) (number : ℕ) (request : Request) → IsSameCall p other → request_of_piece p number ≡ Some request →
    request_of_piece other number ≡ Some request
same_request_of p other number request same is =
    let of = is_request p number request is in
    let piece_is : piece_of_call other.call number ≡ Some of.piece = ap (λ (c : Call). piece_of_call c number) (sym same.call) ∙ of.piece_is in
    let fd_is : fd_of other ≡ Some of.fd =
    fd_of_pieces other.call number of.piece other.before p.before piece_is ∙ ap (λ (c : Call). fd_of_call c p.before) (sym same.call) ∙ of.fd_is in
    let call : other.call ≡ p.call = sym same.call in
    let at : other.at ≡ p.at = sym same.at in
    let places : request_for other of.fd of.piece ≡ request_for p of.fd of.piece =
    λ i. request_for (record { call = call i; at = at i; before = other.before }) of.fd of.piece in
    request_made other number of.fd of.piece fd_is piece_is ∙ ap Some (places ∙ of.request_is)

-- where a walk is
pub walk_at_same : (phase : Phase) (request : Request) (old new : TableState) (process other : ℕ) →
    walk_at new.walks other ≡ walk_at old.walks process → IsWalkAt phase request old process → IsWalkAt phase request new other
walk_at_same Looking request old new process other same is = same ∙ is
walk_at_same Reading request old new process other same is = same ∙ is
walk_at_same Filling request old new process other same is = (is.0, same ∙ is.1)
walk_at_same Moving request old new process other same is = (is.0, same ∙ is.1)
walk_at_same Missing request old new process other same is = (is.0, same ∙ is.1)
walk_at_same Retiring request old new process other same (inl is) = inl (is.0, same ∙ is.1)
walk_at_same Retiring request old new process other same (inr is) = inr (is.0, same ∙ is.1)
walk_at_same Completing request old new process other same is = same ∙ is

-- an engine that walked for its command still does, at a later place of the call
pub walks_still : (m next : State) (p after : Place) (hand : InHand) → IsSameCall p after →
    walk_at next.tables.walks p.at.process ≡ walk_at m.tables.walks p.at.process → IsWalkFor m p hand → IsWalkFor next after hand
walks_still m next p after hand same walk walks = record {
  request = walks.request;
  of_piece = same_request_of p after hand.piece walks.request same walks.of_piece;
  walk =
      walk_at_same hand.phase walks.request m.tables next.tables p.at.process after.at.process
      (ap (λ (a : At). walk_at next.tables.walks a.process) (sym same.at) ∙ walk) walks.walk;
}

-- ---- calm turns

-- engines with a command in hand walk for its request
abbrev pub AreWalking : State → Type 0
AreWalking m = (process : ℕ) (p : Place) (hand : InHand) → running m process ≡ Some p → (progress_of m process).hand ≡ Some hand → IsWalkFor m p hand

pub walking_calm : (m next : State) → IsCalm m next → AreWalking m → AreWalking next
walking_calm m next calm walking process after hand running_is in_hand =
    let was : (progress_of m process).hand ≡ Some hand = sym (calm.hands process) ∙ in_hand in
    let still = runs_still m next process after calm.script (calm.ended process hand was) running_is in
    walks_still m next still.0 after hand still.2 (ap (λ (all : List Walk). walk_at all still.0.at.process) calm.walks)
    (walking process still.0 hand still.1 was)

pub idle_calm : (m next : State) → IsCalm m next → IsIdleWithout m → IsIdleWithout next
idle_calm m next calm idle process none =
    ap (λ (all : List Walk). walk_at all process) calm.walks ∙ idle process (sym (calm.hands process) ∙ none)
