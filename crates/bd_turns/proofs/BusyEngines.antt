-- An engine with a command acts, and where no engine has one the invalidation engine acts for what is posted.
use Rattle.std.proofs.Common.{◌≡◌, ℕ, ◌<◌, Bool, true, false, List, [], ◌∷◌, ◌++◌, length, map, Option, None, Some, refl, sym, ap, ◌∙◌, subst, arith, get_or, append_assoc}
use Rattle.std.specs.Prelude.{All, not}
use Rattle.std.specs.Option.{option_and_then, option_map}
use Rattle.std.specs.FinMap as fin
use Rattle.std.proofs.lemmas.Bool.{both_ways, false≢true}
use Rattle.std.proofs.lemmas.List.Elements.{All-head, All-tail}
use Rattle.std.proofs.lemmas.Option.{slice_get-get_or}
use Rattle.bd_base.specs.declared.key.Key.{Key}
use Rattle.bd_base.specs.declared.script.Call.{Call}
use Rattle.bd_base.specs.declared.script.Call.TheVariants.{Read, Write, RawRead, RawWrite}
use Rattle.bd_base.specs.declared.volume.Volume.{Volume}
use Rattle.bd_base.specs.Pieces.{Piece}
use Rattle.bd_entry.specs.declared.entry.Entry.{Entry}
use Rattle.bd_entry.specs.Actions.{is_none_of}
use Rattle.bd_entry.specs.Calls.{Place, fd_of, fd_of_call, piece_of_call, pieces_of_call}
use Rattle.bd_entry.specs.Store.{Descriptor, descriptor_at}
use Rattle.bd_entry.proofs.NextActs.{map_from, then_from}
use Rattle.bd_tables.specs.declared.request.Completion.{Completion}
use Rattle.bd_tables.specs.declared.request.Request.{Request}
use Rattle.bd_tables.specs.declared.state.Right.{Right}
use Rattle.bd_tables.specs.declared.state.Walk.TheVariants as walks
use Rattle.bd_tables.specs.Sound.{Allows, OnRight, granted_of}
use Rattle.bd_tables.specs.State.{found_of, told_of, walk_at}
use Rattle.bd_turns.specs.declared.turn.Row.TheVariants as rows
use Rattle.bd_turns.specs.Engines.{engine_step, engine_with, go_on, miss, move, notes, move_entry, move_entry_of, read_entry, look, fill, enter, request_for, request_of_piece, take_command}
use Rattle.bd_turns.specs.Reached.{IsReached}
use Rattle.bd_turns.specs.Sound.{AreCommands, IsWalkAt, IsWalkFor}
use Rattle.bd_turns.specs.State.{InHand, Phase, Looking, Reading, Filling, Moving, Missing, Retiring, Completing, Progress, Completed, State, outstanding, pieces_in_hand, progress_of, running}
use Rattle.bd_turns.specs.Turns.{SomeActorActs}
use Rattle.bd_turns.proofs.Acting.{engine_acts}
use Rattle.bd_turns.proofs.Cases.{running_process}

-- there is something
abbrev pub There : {X : Type 0} → Option X → Type 0
There {X = X} o = (x : X) × (o ≡ Some x)

pub there_map : {X Y : Type 0} (f : X → Y) (o : Option X) → There o → There (option_map f o)
there_map f o has = (f has.0, ap (option_map f) has.1)

pub there_then : {X Y : Type 0} (f : X → Option Y) (o : Option X) (x : X) → o ≡ Some x → There (f x) → There (option_and_then f o)
there_then f o x is has = (has.0, ap (option_and_then f) is ∙ has.1)

-- ---- requests of commands

-- a call with pieces has its descriptor named or in its address
with_pieces : (call : Call) (entries : List _) (number : ℕ) → number < length (pieces_of_call call) → There (fd_of_call call entries)
with_pieces (Read fd off len) entries number within = (fd, refl)
with_pieces (Write fd off bytes) entries number within = (fd, refl)
with_pieces (RawRead address range) entries number within = (_, refl)
with_pieces (RawWrite address lo bytes) entries number within = (_, refl)
with_pieces call entries number within = absurd (omega arith)

request_there : (p : Place) (number : ℕ) → number < length (pieces_of_call p.call) → There (request_of_piece p number)
request_there p number within =
    let fd = with_pieces p.call p.before number within in
    let none : Piece = record { index = 0; range = record { lo = 0; hi = 0 } } in
    there_then (λ fd. option_map (request_for p fd) (piece_of_call p.call number)) (fd_of p) fd.0 fd.1
    (there_map (request_for p fd.0) (piece_of_call p.call number)
    (get_or (pieces_of_call p.call) number none, slice_get-get_or (pieces_of_call p.call) number none within))

-- ---- an engine with a command acts

-- an engine that holds a translation has its descriptor
granted_there : (m : State) (v : Volume) → IsReached v m → (p : Place) (number : ℕ) (request : Request) (completion : Completion) →
    request_of_piece p number ≡ Some request → walk_at m.tables.walks p.at.process ≡ walks.Translated request completion →
    There (move_entry_of m.store p number completion.block)
granted_there m v reached p number request completion of walk =
    let fd = then_from (λ fd. option_map (request_for p fd) (piece_of_call p.call number)) (fd_of p) request of in
    let piece = map_from (request_for p fd.0) (piece_of_call p.call number) request fd.2 in
    let granted : OnRight (Allows request) (fin.get m.tables.rights request.key) =
    reached.sound.tables_are.tables.granted p.at.process request (ap granted_of walk) in
    let key : request.key ≡ (request_for p fd.0 piece.0).key = ap (λ (r : Request). r.key) (sym piece.2) in
    let right = on_right (fin.get m.tables.rights request.key) granted in
    let d = reached.sound.tables_are.rights.told request.key right.0 right.1 in
    let entry : ℕ → Piece → Descriptor → Entry = λ fd piece d. move_entry m.store p number fd piece completion.block d in
    let named : descriptor_at m.store p.at.process fd.0 ≡ Some d.0 =
    subst (λ (key : Key). descriptor_at m.store key.process key.fd ≡ Some d.0) key d.1 in
    there_then
    (λ fd. option_and_then
    (λ piece. option_map (entry fd piece) (descriptor_at m.store p.at.process fd))
    (piece_of_call p.call number))
    (fd_of p) fd.0 fd.1
    (there_then (λ piece. option_map (entry fd.0 piece) (descriptor_at m.store p.at.process fd.0))
    (piece_of_call p.call number) piece.0 piece.1
    (there_map (entry fd.0 piece.0) (descriptor_at m.store p.at.process fd.0)
    (d.0, named)))
  where
    on_right : (o : Option Right) → OnRight (Allows request) o → There o
    on_right None has = absurd has
    on_right (Some right) has = (right, refl)

-- an engine with a command in its hand has a step
going_on : (m : State) (v : Volume) → IsReached v m → (p : Place) (progress : Progress) (hand : InHand) → IsWalkFor m p hand →
    There (go_on m p progress hand.piece hand.phase)
going_on m v reached p progress hand walks_for = by hand.phase walks_for.walk
  where
    by : (phase : Phase) → IsWalkAt phase walks_for.request m.tables p.at.process → There (go_on m p progress hand.piece phase)
    by Looking walk = there_map (look m.tables progress hand.piece) (request_of_piece p hand.piece) (walks_for.request, walks_for.of_piece)
    by Reading walk = there_map (read_entry m.tables progress hand.piece) (request_of_piece p hand.piece) (walks_for.request, walks_for.of_piece)
    by Filling walk =
        there_then
        (λ request. option_map (fill m.tables progress hand.piece request) (told_of (walk_at m.tables.walks p.at.process)))
        (request_of_piece p hand.piece) walks_for.request walks_for.of_piece
        (there_map (fill m.tables progress hand.piece walks_for.request) (told_of (walk_at m.tables.walks p.at.process)) (walk.0, ap told_of walk.1))
    by Moving walk =
        there_then (move m.store m.tables p progress hand.piece) (told_of (walk_at m.tables.walks p.at.process)) walk.0 (ap told_of walk.1)
        (there_map (notes rows.Move m.tables progress hand.piece) (move_entry_of m.store p hand.piece walk.0.block)
        (granted_there m v reached p hand.piece walks_for.request walk.0 walks_for.of_piece walk.1))
    by Missing walk =
        there_map (miss m.tables p progress hand.piece) (found_of (walk_at m.tables.walks p.at.process)) (walk.0, ap found_of walk.1)
    by Retiring walk = (_, refl)
    by Completing walk = (_, refl)

-- what holds of all elements holds of the last ones
pub All-right : {X : Type 0} (P : X → Type 0) (xs ys : List X) → All P (xs ++ ys) → All P ys
All-right P [] ys all = all
All-right P (x ∷ xs) ys all = All-right P xs ys (All-tail P x (xs ++ ys) all)

-- whether a process has a command that its engine has not completed
abbrev pub has_command : Progress → Bool
has_command progress = not (is_none_of (pieces_in_hand progress.hand ++ progress.submitted))

none_right : (done : List Completed) (pieces : List ℕ) → map (λ (c : Completed). c.piece) done ++ pieces ≡ [] → is_none_of pieces ≡ true
none_right [] pieces none = ap is_none_of none
none_right (c ∷ done) pieces none =
    absurd (let no : c.piece ∷ (map (λ (c : Completed). c.piece) done ++ pieces) ≡ [] = none in cc)

-- a process without commands outstanding has none
no_command : (progress : Progress) → outstanding progress ≡ [] → has_command progress ≡ false
no_command progress none =
    let done : List ℕ = map (λ (c : Completed). c.piece) progress.completed in
    let hand : List ℕ = pieces_in_hand progress.hand in
    ap not (none_right progress.completed (hand ++ progress.submitted) (sym (append_assoc done hand progress.submitted) ∙ none))

command_steps : (m : State) (v : Volume) → IsReached v m → (p : Place) (progress : Progress) → AreCommands p progress →
    ((hand : InHand) → progress.hand ≡ Some hand → IsWalkFor m p hand) → has_command progress ≡ true →
    There (engine_with m p progress progress.hand)
command_steps m v reached p progress commands hands has = of progress.hand refl progress.submitted refl has
  where
    taken : (submitted : List ℕ) → progress.submitted ≡ submitted → (number : ℕ) (rest : List ℕ) → submitted ≡ number ∷ rest →
        number < length (pieces_of_call p.call)
    taken submitted list number rest is =
        let P : ℕ → Type 0 = λ piece. piece < length (pieces_of_call p.call) in
        let last : All P progress.submitted =
        All-right P (map (λ (c : Completed). c.piece) progress.completed ++ pieces_in_hand progress.hand) progress.submitted commands.pieces in
        All-head P number rest (subst (All P) (list ∙ is) last)

    of : (slot : Option InHand) → progress.hand ≡ slot → (submitted : List ℕ) → progress.submitted ≡ submitted →
        not (is_none_of (pieces_in_hand slot ++ submitted)) ≡ true → There (engine_with m p progress slot)
    of (Some hand) held submitted list some = going_on m v reached p progress hand (hands hand held)
    of None held [] list some = absurd (false≢true some)
    of None held (number ∷ rest) list some =
        let from = there_map (enter m.tables progress number rest) (request_of_piece p number)
        (request_there p number (taken (number ∷ rest) list number rest refl)) in
        (from.0, ap (take_command m.tables p progress) list ∙ from.1)

-- an engine with a command acts
pub commands_act : (v : Volume) (m : State) → IsReached v m → (process : ℕ) → has_command (progress_of m process) ≡ true → SomeActorActs m
commands_act v m reached process has = by (running m process) refl
  where
    by : (o : Option Place) → running m process ≡ o → SomeActorActs m
    by None none =
        absurd (both_ways (has_command (progress_of m process)) (no_command (progress_of m process) (reached.sound.calls.commands.none process none)) has)
    by (Some p) is =
        let same : p.at.process ≡ process = running_process m process p is in
        let step = command_steps m v reached p (progress_of m process) (reached.sound.calls.commands.of_running process p is)
        (λ hand held. reached.sound.tables_are.hands process p hand is held) has in
        let there : There (engine_step m p) =
        subst (λ (n : ℕ). There (engine_with m p (progress_of m n) (progress_of m n).hand)) (sym same) step in
        engine_acts m process p there.0 is there.1
