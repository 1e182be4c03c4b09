-- A call that begins has at most so many turns left as any call takes.
use Rattle.std.proofs.Common.{◌≡◌, ℕ, ◌+◌, ◌<◌, ◌≤◌, true, false, List, [], ◌∷◌, ◌++◌, length, map, Option, None, Some, refl, sym, ap, ◌∙◌, arith, get_or, ⊎_elim}
use Rattle.std.specs.Prelude.{nat_lt}
use Rattle.std.specs.Option.{option_map_or}
use Rattle.std.proofs.lemmas.Bool.{cases_lt, both_ways, false≢true, lt-ltb}
use Rattle.std.proofs.lemmas.Option.{slice_get-get_or}
use Rattle.bd_base.specs.declared.limits.TheConstants.{FILE_SIZE}
use Rattle.bd_base.specs.declared.reason.Reason.TheVariants as reasons
use Rattle.bd_base.specs.declared.script.Call.{Call}
use Rattle.bd_base.specs.declared.script.Call.TheVariants.{Enter, Create, Read, Write, Truncate, Unlink, Size, Map, Close, RawRead, RawWrite}
use Rattle.bd_base.specs.declared.script.How.TheVariants as hows
use Rattle.bd_base.specs.declared.volume.Inode.{Inode}
use Rattle.bd_base.specs.declared.volume.Volume.{Volume}
use Rattle.bd_base.specs.Files.{blocks_for}
use Rattle.bd_base.specs.Inodes.{blocks_of_slot}
use Rattle.bd_base.specs.Pieces.{Piece}
use Rattle.bd_base.specs.Scripts.{IsCall}
use Rattle.bd_entry.specs.Calls.{Place, fd_of, piece_of_call, pieces_of_call}
use Rattle.bd_entry.specs.Refusals.{file_of, first_refusal, is_read_only, reason_if, truncate_refusal}
use Rattle.bd_entry.specs.Store.{blocks_in, descriptor_at, size_in}
use Rattle.bd_entry.proofs.HistoryLaws.{is_call}
use Rattle.bd_entry.proofs.NextActs.{open_descriptor, or_none}
use Rattle.bd_entry.proofs.NextFiles.{reason_if-none}
use Rattle.bd_entry.proofs.RangesOfPieces.{piece_of_call-is}
use Rattle.bd_turns.specs.Reached.{IsReached}
use Rattle.bd_turns.specs.Rest.{attach_turns, command_turns, is_by, is_on_file, kernel_turns, phase_turns, piece_turns, revocation_turns, turns_for}
use Rattle.bd_turns.specs.Sound.{keeps_allowed}
use Rattle.bd_turns.specs.State.{Completed, InHand, Progress, State, outstanding, pieces_in_hand, progress_of, running}
use Rattle.bd_turns.proofs.AttachTurns.{part_bound}
use Rattle.bd_turns.proofs.FileOwn.{has_pieces}
use Rattle.bd_turns.proofs.GrowthTurns.{size_most}
use Rattle.bd_turns.proofs.OtherTurns.{file_there}
use Rattle.bd_turns.proofs.PieceTurns.{unanswered_bound, untouched_bound}
use Rattle.bd_turns.proofs.RevocationTurns.{revocation_bound}
use Rattle.bd_turns.proofs.RunningPlaces.{runs_at}

one_most : (a : ℕ) → a ≤ 20480 → a + 1 ≤ 24577
one_most a less = omega arith

two_most : (a b : ℕ) → a ≤ 20480 → b ≤ 4096 → a + b + 1 ≤ 24577
two_most a b less few = omega arith

-- nothing outstanding takes no turns
no_turns : (progress : Progress) → outstanding progress ≡ [] → command_turns progress ≡ 0
no_turns progress none = by progress.completed refl progress.hand refl progress.submitted refl none
  where
    by : (done : List Completed) → progress.completed ≡ done → (hand : Option InHand) → progress.hand ≡ hand → (list : List ℕ) → progress.submitted ≡ list →
        map (λ (c : Completed). c.piece) done ++ pieces_in_hand hand ++ list ≡ [] → command_turns progress ≡ 0
    by [] no_done None no_hand [] no_list none =
        let first : length progress.completed ≡ 0 = ap (λ (l : List Completed). length l) no_done in
        let second : option_map_or (λ (hand : InHand). phase_turns hand.phase) progress.hand 0 ≡ 0 =
        ap (λ (o : Option InHand). option_map_or (λ (hand : InHand). phase_turns hand.phase) o 0) no_hand in
        let third : length progress.submitted ≡ 0 = ap (λ (l : List ℕ). length l) no_list in
        omega (arith, first, second, third)
    by (c ∷ done) is hand is_hand list is_list none =
        absurd (let no : c.piece ∷ (map (λ (c : Completed). c.piece) done ++ pieces_in_hand hand ++ list) ≡ [] = none in cc)
    by [] is (Some hand) is_hand list is_list none = absurd (let no : hand.piece ∷ list ≡ [] = none in cc)
    by [] is None is_hand (number ∷ list) is_list none = absurd (let no : number ∷ list ≡ [] = none in cc)

-- a call has few pieces
few_pieces : (call : Call) → IsCall call → length (pieces_of_call call) ≤ 5
few_pieces call within =
    ⊎_elim
    (λ many.
    let none : Piece = record { index = 0; range = record { lo = 0; hi = 0 } } in
    let sixth : piece_of_call call 5 ≡ Some (get_or (pieces_of_call call) 5 none) = slice_get-get_or (pieces_of_call call) 5 none many in
    let below : 5 < 5 = (piece_of_call-is call 5 (get_or (pieces_of_call call) 5 none) within sixth).number_is in
    absurd (omega arith))
    (λ few. few)
    (cases_lt 5 (length (pieces_of_call call)))

module _ (v : Volume) (m : State) (reached : IsReached v m) (p : Place) (runs : running m p.at.process ≡ Some p) where
  -- rights
  rights_few : (test : _) → revocation_turns m.tables.rights m.posted test ≤ 20480
  rights_few test = revocation_bound m.tables.rights m.posted test (λ key right swept there is. reached.sound.tables_are.marked key right swept there is)

  -- sizes
  size_small : (file : ℕ) → file_of m.store p ≡ Some file → size_in m.store file ≤ 16777216
  size_small file of =
      let f = file_there m.store p file reached.sound.calls.valid of in
      let small : f.0.size ≤ 16777216 = (reached.sound.calls.valid.volume.files.valid.each file f.0 f.1).size_in_range in
      let is : size_in m.store file ≡ f.0.size = ap (λ (slot : Option Inode). option_map_or (λ (i : Inode). i.size) slot 0) f.1 in
      omega (arith, small, is)

  blocks_few : (file : ℕ) → file_of m.store p ≡ Some file → length (blocks_in m.store file) ≤ 4096
  blocks_few file of =
      let f = file_there m.store p file reached.sound.calls.valid of in
      let valid = reached.sound.calls.valid.volume.files.valid.each file f.0 f.1 in
      let small : f.0.size ≤ 16777216 = valid.size_in_range in
      let enough : length f.0.blocks ≡ blocks_for f.0.size = valid.enough_blocks in
      let is : length (blocks_in m.store file) ≡ length f.0.blocks = ap (λ (slot : Option Inode). length (blocks_of_slot slot)) f.1 in
      omega (arith, small, enough, is)

  attach_few : (process : ℕ) (o : Option ℕ) → attach_turns m.store process o ≤ 24577
  attach_few process None = omega arith
  attach_few process (Some fd) = let few = part_bound (descriptor_at m.store process fd) in omega (arith, few)

  pub pieces_few : (progress_of m p.at.process).held ≡ None → outstanding (progress_of m p.at.process) ≡ [] →
      piece_turns m p (progress_of m p.at.process).held ≤ 24577
  pieces_few free none =
      let within = is_call m.script p.at p.call reached.sound.calls.limits (runs_at m p.at.process p runs).called in
      let few : length (pieces_of_call p.call) ≤ 5 = few_pieces p.call within in
      let open_pieces = unanswered_bound p in
      let fresh = untouched_bound p (outstanding (progress_of m p.at.process)) in
      let kernel : kernel_turns m.store p (progress_of m p.at.process).held ≡ kernel_turns m.store p None = ap (kernel_turns m.store p) free in
      let commands = no_turns (progress_of m p.at.process) none in
      omega (arith, few, open_pieces, fresh, kernel, commands)

  -- a call on a file
  pub file_call_few : (file : ℕ) → file_of m.store p ≡ Some file → has_pieces p.call ≡ false →
      (keeps_allowed p.call ≡ true → first_refusal m.store p.at.process p.call ≡ None) → turns_for m p p.call (Some file) ≤ 24577
  file_call_few file of without allowed = by p.call refl without
    where
      by : (call : Call) → p.call ≡ call → has_pieces call ≡ false → turns_for m p call (Some file) ≤ 24577
      by (Enter name mode hows.Plain) is none = one_most _ (rights_few (is_on_file (Some file)))
      by (Enter name mode hows.Direct) is none = attach_few p.at.process (fd_of p)
      by (Create name perms) is none = omega arith
      by (Truncate fd size) is none =
          let refuses_not : first_refusal m.store p.at.process (Truncate fd size) ≡ None =
          ap (first_refusal m.store p.at.process) (sym is) ∙ allowed (ap keeps_allowed is) in
          let named = open_descriptor m.store p.at.process fd (truncate_refusal size) refuses_not in
          let small : nat_lt FILE_SIZE size ≡ false =
          reason_if-none (nat_lt FILE_SIZE size) reasons.TooBig
          (or_none (reason_if (is_read_only named.0.mode) reasons.ReadOnly) (reason_if (nat_lt FILE_SIZE size) reasons.TooBig) named.2).1 in
          let most : size ≤ 16777216 =
          ⊎_elim (λ above. absurd (both_ways (nat_lt FILE_SIZE size) small (lt-ltb FILE_SIZE size above))) (λ within. within) (cases_lt 16777216 size) in
          two_most _ _ (rights_few (is_on_file (Some file))) (size_most (size_in m.store file) size (size_small file of) most)
      by (Unlink name) is none = let few = blocks_few file of in omega (arith, few)
      by (Size fd) is none = omega arith
      by (Map fd) is none = attach_few p.at.process (fd_of p)
      by (Close fd) is none = one_most _ (rights_few (is_by p.at.process fd))
      by (Read fd off len) is none = absurd (false≢true (sym none))
      by (Write fd off bytes) is none = absurd (false≢true (sym none))
      by (RawRead address range) is none = absurd (false≢true (sym none))
      by (RawWrite address lo bytes) is none = absurd (false≢true (sym none))
