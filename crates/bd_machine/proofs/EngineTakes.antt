-- A process in the parts after it was written, and after it took its oldest command in hand.
use Rattle.std.proofs.Common.{◌≡◌, ◌≢◌, ℕ, ◌<◌, List, [], ◌∷◌, ◌++◌, length, set, get_or, Option, None, Some, refl, sym, ap, ◌∙◌, arith, ⊎_elim}
use Rattle.std.specs.Prelude.{slice_get}
use Rattle.std.specs.Option.{option_to_list}
use Rattle.std.specs.Vec.{with_item}
use Rattle.std.proofs.lemmas.Bool.{cases_lt}
use Rattle.std.proofs.lemmas.List.{append-nil, get_or-set_same, get_or-set_other, length-set}
use Rattle.std.proofs.lemmas.Option.{get_or_from_slice_get, slice_get-get_or, slice_get_past, slice_get_within}
use Rattle.bd_machine.specs.declared.parts.Parts.{Parts}
use Rattle.bd_machine.specs.declared.process.Hand.{Hand}
use Rattle.bd_machine.specs.declared.process.Process.{Process}
use Rattle.bd_machine.specs.Engines.{Becomes, TakesOldest, with_command}
use Rattle.bd_machine.specs.Shows.{request_of_command}
use Rattle.bd_machine.specs.Turns.{process_in}
use Rattle.bd_queue_pair.specs.declared.command.Command.{Command}
use Rattle.bd_queue_pair.specs.Queues.{Queues}
use Rattle.bd_machine.specs.declared.process.Phase.TheVariants.{Taken}
use Rattle.bd_tables.specs.declared.request.Request.{Request}
use Rattle.bd_tables.specs.Kernel.{IsLimit}

-- ---- elements

-- the element that was written
got-set_same : {X : Type 0} (xs : List X) (i : ℕ) (z : X) → i < length xs → slice_get (set xs i z) i ≡ Some z
got-set_same xs i z inside =
    let count : length (set xs i z) ≡ length xs = length-set xs i z in
    let within : i < length (set xs i z) = omega (arith, inside, count) in
    slice_get-get_or (set xs i z) i z within ∙ ap Some (get_or-set_same xs i z z inside)

-- every other element stays
got-set_other : {X : Type 0} (xs : List X) (i j : ℕ) (z : X) → j ≢ i → slice_get (set xs i z) j ≡ slice_get xs j
got-set_other xs i j z differ =
    let count : length (set xs i z) ≡ length xs = length-set xs i z in
    ⊎_elim {C = slice_get (set xs i z) j ≡ slice_get xs j}
    (λ inside.
    let within : j < length (set xs i z) = omega (arith, inside, count) in
    slice_get-get_or (set xs i z) j z within ∙ ap Some (get_or-set_other xs i j z z differ) ∙ sym (slice_get-get_or xs j z inside))
    (λ past.
    slice_get_past (set xs i z) j (omega (arith, past, count)) ∙ sym (slice_get_past xs j past))
    (cases_lt j (length xs))

-- ---- processes

-- the process that was written
pub became : {T M P : Type 0} (x : Parts T M P) (q i : ℕ) (it z w : Process P) → i ≡ q → process_in x q ≡ Some it → w ≡ z →
    Becomes x (record x { processes = with_item x.processes i w }) q x.tables z
became {T} {M} {P} x q i it z w same there is =
    let inside : q < length x.processes.items = slice_get_within x.processes.items q it there in
    let now : set x.processes.items i w ≡ set x.processes.items q z =
    ap (λ (n : ℕ). set x.processes.items n w) same ∙ ap (set x.processes.items q) is in
    record {
      tables_are = refl;
      disk = refl;
      log = refl;
      others = record {
        count = length-set x.processes.items i w;
        others = λ other differ.
            ap (λ (l : List (Process P)). slice_get l other) now ∙ got-set_other x.processes.items q other z differ;
      };
      mine = ap (λ (l : List (Process P)). slice_get l q) now ∙ got-set_same x.processes.items q z inside;
    }

-- the process that was read
pub read_as : {T M P : Type 0} (x : Parts T M P) (q i : ℕ) (it r : Process P) → i ≡ q → process_in x q ≡ Some it → r ≡ get_or x.processes.items i r → r ≡ it
read_as {T} {M} {P} x q i it r same there is =
    is ∙ ap (λ (n : ℕ). get_or x.processes.items n r) same ∙ get_or_from_slice_get x.processes.items q it r there

-- and its pass and its command in hand
pub pass_read : {T M P : Type 0} (x : Parts T M P) (q i : ℕ) (it r : Process P) (o : Option P) (pass : P) → i ≡ q → process_in x q ≡ Some it →
    r ≡ get_or x.processes.items i r → o ≡ r.pass → o ≡ Some pass → it.pass ≡ Some pass
pass_read {T} {M} {P} x q i it r o pass same there is read some =
    sym (ap (λ (p : Process P). p.pass) (read_as x q i it r same there is)) ∙ sym read ∙ some

-- its command in hand
pub hand_read : {T M P : Type 0} (x : Parts T M P) (q i : ℕ) (it r : Process P) (o : Option Hand) (hand : Hand) → i ≡ q → process_in x q ≡ Some it →
    r ≡ get_or x.processes.items i r → o ≡ r.hand → o ≡ Some hand → it.hand ≡ Some hand
hand_read {T} {M} {P} x q i it r o hand same there is read some =
    sym (ap (λ (p : Process P). p.hand) (read_as x q i it r same there is)) ∙ sym read ∙ some

-- ---- commands

-- what a queue gives
pub record Gives (old new : Queues) (taken : Option Command) : Type 0 where
  pub submitted : old.submitted ≡ option_to_list taken ++ new.submitted
  pub in_hand : new.in_hand ≡ old.in_hand ++ option_to_list taken
  pub completed : new.completed ≡ old.completed

-- a queue gives its oldest command
gives_one : (old new : Queues) (taken : Option Command) (c : Command) → taken ≡ Some c → Gives old new taken →
    (old.submitted ≡ c ∷ new.submitted) × (new ≡ record old { submitted = new.submitted; in_hand = old.in_hand ++ c ∷ [] })
gives_one old new taken c is gives = (
  gives.submitted ∙ ap (λ (o : Option Command). option_to_list o ++ new.submitted) is,
  ap (λ (l : List Command). record new { in_hand = l }) (gives.in_hand ∙ ap (λ (o : Option Command). old.in_hand ++ option_to_list o) is)
      ∙ ap (λ (l : _). record old { submitted = new.submitted; in_hand = old.in_hand ++ c ∷ []; completed = l }) gives.completed,
)

-- or stays where it has none
gives_none : (old new : Queues) (taken : Option Command) → taken ≡ None → Gives old new taken → (old.submitted ≡ new.submitted) × (new ≡ old)
gives_none old new taken is gives =
    let submitted : old.submitted ≡ new.submitted = gives.submitted ∙ ap (λ (o : Option Command). option_to_list o ++ new.submitted) is in (
      submitted,
      ap (λ (l : List Command). record new { in_hand = l })
          (gives.in_hand ∙ ap (λ (o : Option Command). old.in_hand ++ option_to_list o) is ∙ append-nil old.in_hand)
          ∙ ap (λ (l : List Command). record { submitted = l; in_hand = old.in_hand; completed = new.completed }) (sym submitted)
          ∙ ap (λ (l : _). record old { completed = l }) gives.completed,
    )

-- the oldest command was taken in hand
pub takes_oldest : {T M P : Type 0} (x : Parts T M P) (q i : ℕ) (y r : Process P) (queue : Queues) (taken : Option Command) (c : Command) (request : Request) →
    i ≡ q → process_in x q ≡ Some y → r ≡ get_or x.processes.items i r → taken ≡ Some c → Gives r.queue queue taken →
    request ≡ request_of_command q c → IsLimit request.hi →
    TakesOldest x (record x {
      processes = with_item x.processes i
          (record r { queue = queue; hand = Some (record { command = c; outcome = None }); phase = Taken });
    }) q y
    request
takes_oldest {T} {M} {P} x q i y r queue taken c request same there is some gives request_is hi =
    let r_is : r ≡ y = read_as x q i y r same there is in
    let one = gives_one r.queue queue taken c some gives in
    record {
      command = c;
      rest = queue.submitted;
      submitted = ap (λ (p : Process P). p.queue.submitted) (sym r_is) ∙ one.0;
      request_is = request_is;
      hi = hi;
      becomes = became x q i y (with_command y c queue.submitted) _ same there
          (ap (λ (u : Queues). record r { queue = u; hand = Some (record { command = c; outcome = None }); phase = Taken }) one.1
          ∙ ap (λ (p : Process P). with_command p c queue.submitted) r_is);
    }

-- no command was there to take
pub takes_none : {T M P : Type 0} (x : Parts T M P) (q i : ℕ) (y r : Process P) (queue : Queues) (taken : Option Command) →
    i ≡ q → process_in x q ≡ Some y → r ≡ get_or x.processes.items i r → taken ≡ None → Gives r.queue queue taken →
    r.queue.submitted ≡ [] →
    (y.queue.submitted ≡ []) × Becomes x (record x { processes = with_item x.processes i (record r { queue = queue }) }) q x.tables y
takes_none {T} {M} {P} x q i y r queue taken same there is none gives empty =
    let r_is : r ≡ y = read_as x q i y r same there is in (
      ap (λ (p : Process P). p.queue.submitted) (sym r_is) ∙ empty,
      became x q i y y (record r { queue = queue }) same there
          (ap (λ (u : Queues). record r { queue = u }) (gives_none r.queue queue taken none gives).1 ∙ r_is),
    )
