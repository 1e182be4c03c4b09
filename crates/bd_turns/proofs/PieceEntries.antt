-- Each entry that the kernel adds for the pieces of a call leaves it fewer turns.
use Rattle.std.proofs.Common.{◌≡◌, ◌≢◌, ◌⊎◌, inl, inr, ℕ, ◌+◌, ◌*◌, ◌<◌, ◌≤◌, Bool, true, false, cond, List, [], ◌∷◌, ◌++◌, length, Option, None, Some, refl, sym, ap, ◌∙◌, subst, arith, ⊎_elim}
use Rattle.std.specs.Prelude.{IsSome, is_some}
use Rattle.std.specs.Option.{option_map}
use Rattle.std.specs.List.{find, list_any}
use Rattle.std.proofs.lemmas.Bool.{both_ways, cond-false, eq-eqb, false_from_ne_true, false≢true, or_parts}
use Rattle.std.proofs.lemmas.Option.{same_Some, slice_get_within}
use Rattle.bd_base.specs.declared.journal.At.{At}
use Rattle.bd_base.specs.declared.journal.Way.{Way}
use Rattle.bd_base.specs.declared.script.Call.{Call}
use Rattle.bd_base.specs.declared.script.Call.TheVariants.{Read, Write, RawRead, RawWrite}
use Rattle.bd_base.specs.declared.volume.Volume.{Volume}
use Rattle.bd_base.specs.Scripts.{IsCall, IsWithinLimits}
use Rattle.bd_entry.specs.declared.entry.Entry.{Entry}
use Rattle.bd_entry.specs.declared.entry.Entry.TheVariants as entries
use Rattle.bd_entry.specs.Actions.{piece_numbers}
use Rattle.bd_entry.specs.Calls.{Place, are_all_answered, is_answer_of, is_answered, is_end_of, is_ended_by, is_made_by, call_at, piece_end, piece_of_call, pieces_of_call}
use Rattle.bd_entry.specs.Promises.{is_whole_refusal}
use Rattle.bd_entry.specs.Refusals.{file_of, goal_of, goal_of_call, is_next_for_kernel, kernel_piece, next_size}
use Rattle.bd_entry.specs.Rules.{NotRefused, Once, RightBlock, RightFile, WithinLimit, place_in}
use Rattle.bd_entry.specs.RulesOfCalls.{HasFieldsOf, IsFirstOfKind}
use Rattle.bd_entry.specs.RulesOfContents.{MayGrow, MayGrowToGoal}
use Rattle.bd_entry.specs.Store.{Store, size_in, work_of}
use Rattle.bd_entry.proofs.Accesses.{of_call-in_store, work-is_of_call}
use Rattle.bd_entry.proofs.HistoryLaws.{is_call}
use Rattle.bd_entry.proofs.NextActs.{map_from, then_from}
use Rattle.bd_entry.proofs.NextReady.{whole_ends}
use Rattle.bd_entry.proofs.Slots.{some_of}
use Rattle.bd_turns.specs.declared.turn.Row.{Row}
use Rattle.bd_turns.specs.declared.turn.Row.TheVariants as rows
use Rattle.bd_turns.specs.Added.{IsAdded}
use Rattle.bd_turns.specs.Processors as processors
use Rattle.bd_turns.specs.Processors.{Action, action_for, next_action, row_of_entry, running_of}
use Rattle.bd_turns.specs.Reached.{IsReached}
use Rattle.bd_turns.specs.Rest.{end_of_call, growth_turns, kernel_turns, unanswered}
use Rattle.bd_turns.specs.State.{Progress, State, has_ended, outstanding, progress_of, running}
use Rattle.bd_turns.specs.Turns.{holds_after, holds_throughout, with_hold}
use Rattle.bd_turns.proofs.ActionsOfCalls.{throughout-no_pieces}
use Rattle.bd_turns.proofs.EffectiveTurns.{has_ended-by_end}
use Rattle.bd_turns.proofs.EntriesOfCalls.{added_made}
use Rattle.bd_turns.proofs.FilesOfCalls.{store_after}
use Rattle.bd_turns.proofs.GrowthTurns.{growth-most, growth_falls, pieces_end}
use Rattle.bd_turns.proofs.OwnActs.{is_by_no_act}
use Rattle.bd_turns.proofs.PieceOwn.{PiecesFall}
use Rattle.bd_turns.proofs.PieceTurns.{after, kernel_falls, kernel_grows, some_unanswered, untouched_less}
use Rattle.bd_turns.proofs.PiecesThere.{not_all}
use Rattle.bd_turns.proofs.ProcessorTurns.{none_as_processor_adds}
use Rattle.bd_turns.proofs.SizesAfter.{extended_size}
use Rattle.bd_turns.proofs.RunningPlaces.{runs_at}
use Rattle.bd_turns.proofs.AddedEntries.{FromAction, adds_from, processors_add}

-- ---- no processor notes that a walk found nothing

abbrev is_missed : Entry → Bool
is_missed (entries.Missed at piece found) = true
is_missed e = false

misses_not : (m : State) (p : Place) (e : Entry) → FromAction m p e → is_missed e ≡ false
misses_not = processors_add is_missed by (λ at owner fd part. refl)
  where
    by : (e : Entry) → is_by_no_act e ≡ false → is_missed e ≡ false
    by (entries.Missed at piece found) not_so = not_so
    by e not_so = refl

-- ---- the entries of the kernel

module _ (v : Volume) (m next : State) (reached : IsReached v m) (p : Place) (runs : running m p.at.process ≡ Some p) (row : Row) (e : Entry)
    (added : IsAdded v m p e) (acting : next_action m p ≡ Some (processors.Adds row e)) (row_is : row_of_entry e ≡ row)
    (some : pieces_of_call p.call ≢ []) where
  abbrev old : Progress
  old = progress_of m p.at.process

  abbrev g : Progress
  g = with_hold p.call row (file_of m.store p) old

  -- the call holds its file for a growth alone
  not_throughout : holds_throughout p.call ≡ false
  not_throughout = false_from_ne_true (holds_throughout p.call) (λ through. some (throughout-no_pieces p.call through))

  -- the entries of the call before
  before_is : IsFirstOfKind p.before e
  before_is =
      subst (λ (before : List Entry). IsFirstOfKind before e)
      (sym (work-is_of_call v m.script m.journal m.store p.call e added.next) ∙ ap (work_of m.store) (ap (λ (at : At). at.process) added.at_is) ∙ added.work_is)
      (added.next.fits Once)

  fields : HasFieldsOf p e
  fields =
      subst (λ (x : Place). HasFieldsOf x e)
      (ap (λ (at : At). place_in m.store p.call at) added.at_is ∙ ap (λ (before : List Entry). record p { before = before }) added.work_is)
      (of_call-in_store v m.script m.journal m.store p.call e added.next).fields

  -- a piece is answered
  answer_falls : (number : ℕ) → IsSome (piece_of_call p.call number) → is_answered number p.before ≡ false → is_answer_of number e ≡ true →
      holds_after p.call row ≡ false → PiecesFall m next p (e ∷ []) g old.held
  answer_falls number there unmet answers holds =
      let piece = some_of (piece_of_call p.call number) there in
      let within : number < length (pieces_of_call p.call) = slice_get_within (pieces_of_call p.call) number piece.0 piece.1 in
      let released : g.held ≡ None = cond-false (holds_after p.call row) (file_of m.store p) None holds in
      let kernel = kernel_falls m.store next.store p e number old.held within unmet answers in
      let same : kernel_turns next.store (after p (e ∷ [])) g.held ≡ kernel_turns next.store (after p (e ∷ [])) None =
      ap (kernel_turns next.store (after p (e ∷ []))) released in
      let fewer = untouched_less p (e ∷ []) (outstanding old) (outstanding old) (λ number out. inl out) in
      omega (arith, kernel, same, fewer)

  -- a call that goes on is not refused as a whole
  goes_on-not_whole : has_ended p.call (p.before ++ e ∷ []) g ≡ false → is_whole_refusal e ≡ true → ⊥
  goes_on-not_whole unended whole =
      both_ways (has_ended p.call (p.before ++ e ∷ []) g) unended
      (has_ended-by_end p.call p.before e g (whole_ends p.call e whole) (none_as_processor_adds v m p row e reached runs acting added))

  -- some piece of the call is not answered
  pub some_left : (fd off : ℕ) (bytes : List ℕ) → p.call ≡ Write fd off bytes → 1 ≤ unanswered p
  some_left fd off bytes is =
      let unfinished : is_ended_by (Write fd off bytes) p.before ≡ false = ap (λ (c : Call). is_ended_by c p.before) (sym is) ∙ added.unfinished in
      let all = (or_parts (list_any (is_end_of (Write fd off bytes)) p.before) (are_all_answered (Write fd off bytes) p.before) unfinished).1 in
      let unmet = not_all (λ number. is_answered number p.before) 0 (length (pieces_of_call (Write fd off bytes))) all in
      let within : unmet.0 < 0 + length (pieces_of_call (Write fd off bytes)) = unmet.2 in
      let here : unmet.0 < length (pieces_of_call p.call) =
      subst (λ (c : Call). unmet.0 < length (pieces_of_call c)) (sym is) (omega (arith, within)) in
      some_unanswered p unmet.0 here unmet.3

  -- ---- growth

  -- a write grows its file, which it then holds
  extension_falls : (fd off : ℕ) (bytes : List ℕ) (at : At) (file to : ℕ) (block : Option ℕ) → p.call ≡ Write fd off bytes →
      e ≡ entries.Extended at file to block → next.store ≡ store_after m.store p.call e → PiecesFall m next p (e ∷ []) g old.held
  extension_falls fd off bytes at file to block is e_is store =
      let s : Store = m.store in
      let legal : IsAdded v m p (entries.Extended at file to block) = subst (IsAdded v m p) e_is added in
      let here : Place = place_in s p.call at in
      let place : here ≡ p =
      ap (place_in s p.call) legal.at_is ∙ ap (λ (before : List Entry). record p { before = before }) legal.work_is in
      let of : file_of s p ≡ Some file = ap (file_of s) (sym place) ∙ legal.next.keeps RightFile in
      let f = legal.next.keeps RightBlock in
      let next_is = legal.next.keeps WithinLimit in
      let goal = then_from (next_size (size_in s file)) (goal_of s here) to next_is in
      let may : MayGrow s file goal.0 = subst (MayGrowToGoal s file) goal.1 (legal.next.keeps NotRefused).1 in
      let small : goal.0 ≤ 16777216 = may.within in
      let wanted : option_map piece_end (kernel_piece s here) ≡ Some goal.0 =
      sym (ap (λ (c : Call). goal_of_call c (kernel_piece s here)) is) ∙ goal.1 in
      let piece = map_from piece_end (kernel_piece s here) goal.0 wanted in
      let numbered = then_from (piece_of_call p.call) (find (is_next_for_kernel s here) (piece_numbers p.call)) piece.0 piece.1 in
      let len : ℕ = length bytes in
      let within = is_call m.script p.at p.call m_limits called in
      let bounds : (1 ≤ len) × (len ≤ 16384) = write_bounds fd off bytes (subst IsCall is within) in
      let ends = pieces_end off len numbered.0 piece.0 bounds.0 (ap (λ (c : Call). piece_of_call c numbered.0) (sym is) ∙ numbered.2) in
      let end : ℕ = end_of_call p.call in
      let end_is : end ≡ off + len = ap end_of_call is in
      let at_goal : piece_end piece.0 ≡ goal.0 = piece.2 in
      let border : (goal.0 ≡ off + len) ⊎ ((j : ℕ) × (goal.0 ≡ 4096 * j)) =
      subst (λ (n : ℕ). (n ≡ off + len) ⊎ ((j : ℕ) × (n ≡ 4096 * j))) at_goal ends.2 in
      let most : goal.0 ≤ off + len = subst (λ (n : ℕ). n ≤ off + len) at_goal ends.0 in
      let above : off < goal.0 = subst (λ (n : ℕ). off < n) at_goal ends.1 in
      let falls : growth_turns to (off + len) + 1 ≤ growth_turns (size_in s file) (off + len) =
      growth_falls (size_in s file) goal.0 to (off + len) goal.2 most border in
      let few : growth_turns (size_in s file) (off + len) ≤ 4101 =
      growth-most (size_in s file) (off + len) 4101 (omega (arith, small, above, bounds.0, bounds.1)) in
      let size : size_in next.store file ≡ to =
      ap (λ (t : Store). size_in t file) (store ∙ ap (store_after s p.call) e_is) ∙ extended_size s p.call at file to block f.0 f.1 in
      let grows : growth_turns (size_in next.store file) (end_of_call p.call) + 1 ≤ growth_turns (size_in s file) (end_of_call p.call) =
      subst (λ (n : ℕ). growth_turns n (end_of_call p.call) + 1 ≤ growth_turns (size_in s file) (end_of_call p.call)) (sym size)
      (subst (λ (n : ℕ). growth_turns to n + 1 ≤ growth_turns (size_in s file) n) (sym end_is) falls) in
      let few_there : growth_turns (size_in s file) (end_of_call p.call) ≤ 4101 =
      subst (λ (n : ℕ). growth_turns (size_in s file) n ≤ 4101) (sym end_is) few in
      let kernel =
      kernel_grows s next.store p (e ∷ []) file old.held (some_left fd off bytes is)
      (λ other held.
      let holds = reached.sound.holds_are.holds p.at.process other held in
      let same : holds.0 ≡ p = same_Some holds.0 p (sym holds.1 ∙ runs) in
      same_Some other file (sym holds.2 ∙ ap (file_of s) same ∙ of))
      grows few_there in
      let held_is : g.held ≡ Some file =
      ap (λ (r : Row). cond (holds_after p.call r) (file_of s p) None) (sym row_is ∙ ap row_of_entry e_is) ∙ of in
      let same : kernel_turns next.store (after p (e ∷ [])) g.held ≡ kernel_turns next.store (after p (e ∷ [])) (Some file) =
      ap (kernel_turns next.store (after p (e ∷ []))) held_is in
      let fewer = untouched_less p (e ∷ []) (outstanding old) (outstanding old) (λ number out. inl out) in
      omega (arith, kernel, same, fewer)
    where
      m_limits : IsWithinLimits m.script
      m_limits = reached.sound.calls.limits

      called : call_at m.script p.at ≡ Some p.call
      called = (runs_at m p.at.process p runs).called

      write_bounds : (fd off : ℕ) (bytes : List ℕ) → IsCall (Write fd off bytes) → (1 ≤ length bytes) × (length bytes ≤ 16384)
      write_bounds fd off bytes within = (within.2.1, within.2.2)

  -- ---- each entry

  -- so does each entry of a call that goes on
  pub entries_fall : has_ended p.call (p.before ++ e ∷ []) g ≡ false → next.store ≡ store_after m.store p.call e → PiecesFall m next p (e ∷ []) g old.held
  entries_fall unended store = by e refl p.call refl (added_made v m p e added)
    where
      answering : (x : Entry) (number : ℕ) → e ≡ x → is_answer_of number x ≡ true → IsSome (piece_of_call p.call number) → is_answered number p.before ≡ false →
          (row_of_entry x ≡ rows.KernelAccess) ⊎ (row_of_entry x ≡ rows.Refused) → PiecesFall m next p (e ∷ []) g old.held
      answering x number is answers there unmet kind =
          let of_row : row ≡ row_of_entry x = sym row_is ∙ ap row_of_entry is in
          answer_falls number there unmet (ap (is_answer_of number) is ∙ answers)
          (⊎_elim
          (λ access. ap (holds_after p.call) (of_row ∙ access) ∙ not_throughout)
          (λ refusal. ap (holds_after p.call) (of_row ∙ refusal) ∙ not_throughout)
          kind)

      first_of : (x : Entry) → e ≡ x → IsFirstOfKind p.before x
      first_of x is = subst (IsFirstOfKind p.before) is before_is

      fields_of : (x : Entry) → e ≡ x → HasFieldsOf p x
      fields_of x is = subst (HasFieldsOf p) is fields

      missing : {A : Type 0} (x : Entry) → e ≡ x → is_missed x ≡ true → A
      missing x is misses = absurd (both_ways (is_missed e) (misses_not m p e (adds_from m p row e acting)) (ap is_missed is ∙ misses))

      refused : {A : Type 0} (x : Entry) → e ≡ x → is_whole_refusal x ≡ true → A
      refused x is whole = absurd (goes_on-not_whole unended (ap is_whole_refusal is ∙ whole))

      made_of : (call : Call) → p.call ≡ call → is_made_by p.call e ≡ true → (x : Entry) → e ≡ x → is_made_by call x ≡ true
      made_of call call_is made x is = subst (λ (c : Call). is_made_by c x ≡ true) call_is (subst (λ (y : Entry). is_made_by p.call y ≡ true) is made)

      accessed : (at : At) (number fd file index : ℕ) (block : Option ℕ) (range : _) (wrote : Bool) (way : Way) (bytes : List ℕ) →
          e ≡ entries.Access at number fd file index block range wrote way bytes → PiecesFall m next p (e ∷ []) g old.held
      accessed at number fd file index block range wrote way bytes is =
          let x : Entry = entries.Access at number fd file index block range wrote way bytes in
          answering x number is (eq-eqb number number refl) (ap is_some (fields_of x is).1.piece) (first_of x is) (inl refl)

      refused_piece : (at : At) (number : ℕ) (reason : _) → e ≡ entries.Refused at (Some number) reason → PiecesFall m next p (e ∷ []) g old.held
      refused_piece at number reason is =
          let x : Entry = entries.Refused at (Some number) reason in
          answering x number is (eq-eqb number number refl) (fields_of x is) (first_of x is) (inr refl)

      of_call : (call : Call) → p.call ≡ call → (x : Entry) → e ≡ x → is_made_by call x ≡ true → PiecesFall m next p (e ∷ []) g old.held
      of_call (Read fd off len) call_is (entries.Access at number f file index block range wrote way bytes) is made =
          accessed at number f file index block range wrote way bytes is
      of_call (Write fd off content) call_is (entries.Access at number f file index block range wrote way bytes) is made =
          accessed at number f file index block range wrote way bytes is
      of_call (RawRead address bounds) call_is (entries.Access at number f file index block range wrote way bytes) is made =
          accessed at number f file index block range wrote way bytes is
      of_call (RawWrite address lo content) call_is (entries.Access at number f file index block range wrote way bytes) is made =
          accessed at number f file index block range wrote way bytes is
      of_call (Write fd off content) call_is (entries.Extended at file to block) is made =
          extension_falls fd off content at file to block call_is is store
      of_call (Write fd off content) call_is (entries.Refused at (Some number) reason) is made = refused_piece at number reason is
      of_call call call_is (entries.Refused at None reason) is made = refused (entries.Refused at None reason) is refl
      of_call call call_is (entries.Missed at number found) is made = missing (entries.Missed at number found) is refl
      of_call (Read fd off len) call_is x is made = absurd (false≢true made)
      of_call (Write fd off content) call_is x is made = absurd (false≢true made)
      of_call (RawRead address bounds) call_is x is made = absurd (false≢true made)
      of_call (RawWrite address lo content) call_is x is made = absurd (false≢true made)
      of_call call call_is x is made = absurd (some (ap pieces_of_call call_is))

      by : (x : Entry) → e ≡ x → (call : Call) → p.call ≡ call → is_made_by p.call e ≡ true → PiecesFall m next p (e ∷ []) g old.held
      by x is call call_is made = of_call call call_is x is (made_of call call_is made x is)
