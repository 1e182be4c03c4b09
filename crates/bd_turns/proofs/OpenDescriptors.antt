-- A direct open or a map that goes on has its descriptor open.
use Rattle.std.proofs.Common.{◌≡◌, ◌≢◌, ℕ, zero, suc, ◌<◌, Bool, true, false, List, [], ◌∷◌, ◌++◌, length, Option, None, Some, refl, sym, ap, ◌∙◌, subst, arith}
use Rattle.std.specs.Prelude.{IsSome, slice_index_or, slice_set}
use Rattle.std.specs.List.{list_any}
use Rattle.std.proofs.lemmas.Bool.{both_ways, false≢true, or_parts}
use Rattle.std.proofs.lemmas.List.{get_or-set_same}
use Rattle.std.proofs.lemmas.List.Folds.{list_any-append}
use Rattle.std.proofs.lemmas.List.Quantifiers.{position-Some}
use Rattle.std.proofs.lemmas.Option.{same_Some}
use Rattle.bd_base.specs.declared.script.Call.{Call}
use Rattle.bd_base.specs.declared.script.Call.TheVariants.{Enter, Map}
use Rattle.bd_base.specs.declared.script.How.TheVariants as hows
use Rattle.bd_base.specs.declared.script.Script.{Script}
use Rattle.bd_base.specs.declared.volume.Volume.{Volume}
use Rattle.bd_base.specs.declared.journal.At.{At}
use Rattle.bd_entry.specs.declared.entry.Entry.{Entry}
use Rattle.bd_entry.specs.declared.entry.Entry.TheVariants as entries
use Rattle.bd_entry.specs.Calls.{at_of, call_at, fd_of_call, is_end_of, is_ended_by, is_opened, opened_fd}
use Rattle.bd_entry.specs.Effects.{after_change, effect_of}
use Rattle.bd_entry.specs.Laws.{IsHistory, IsNextOf}
use Rattle.bd_entry.specs.Rules.{IsOpen, Once, place_in}
use Rattle.bd_entry.specs.RulesOfCalls.{IsFirstOfKind, IsNextCall, IsOfCall}
use Rattle.bd_entry.specs.RulesOfRights.{HasRightDescriptor, TheDescriptor}
use Rattle.bd_entry.specs.Store.{Descriptor, Store, descriptor_at, in_slot, is_empty_slot, lowest_fd, slots_of, with_slot, work_of}
use Rattle.bd_entry.proofs.Accesses.{of_call-in_store, work-is_of_call}
use Rattle.bd_entry.proofs.CallEntries.{fd_of_call-append}
use Rattle.bd_entry.proofs.DescriptorSteps.{is_close}
use Rattle.bd_entry.proofs.Histories.{history_holds}
use Rattle.bd_entry.proofs.KnownSizes.{work-grown}
use Rattle.bd_entry.proofs.RunningCalls.{running_cases, work-other}
use Rattle.bd_entry.proofs.Slots.{some_of}
use Rattle.bd_entry.proofs.WriteModes.{none_at_start}
use Rattle.bd_turns.proofs.FilesOfCalls.{changed_kept, descriptor_kept}

-- the descriptor is open
abbrev IsOpened : Store → ℕ → ℕ → Type 0
IsOpened s process fd = TheDescriptor (descriptor_at s process fd) (λ d. Unit {0})

-- the descriptor is open after an entry where it is after the entry's own change
opened_after : (s : Store) (call : Call) (e : Entry) (process fd : ℕ) → IsOpened (after_change s e) process fd →
    IsOpened (effect_of s (place_in s call (at_of e)) e) process fd
opened_after s call e process fd has = changed_kept (λ d. Unit {0}) (λ d new file mode is. tt) s call e process fd has

-- an open descriptor stays open after an entry that does not close it
stays_open : (s : Store) (call : Call) (e : Entry) → HasRightDescriptor s (place_in s call (at_of e)) e → (process fd : ℕ) →
    (is_close e ≡ true → process ≢ (at_of e).process) → IsOpened s process fd → IsOpened (effect_of s (place_in s call (at_of e)) e) process fd
stays_open s call e fits process fd other has =
    descriptor_kept (λ d. Unit {0}) (λ d new file mode is. tt) s call e fits process fd other has

-- the descriptor that an open takes is open after it
opens : (s : Store) (process fd : ℕ) (d : Descriptor) → lowest_fd s process ≡ Some fd → IsOpened (with_slot s process fd (Some d)) process fd
opens s process fd d lowest =
    let within : fd < length (slots_of s process) = (position-Some is_empty_slot (slots_of s process) fd None lowest).0 in
    let there : process < length s.opens = row_there s.opens process within in
    let row = slice_set (slots_of s process) fd (Some d) in (
      d,
      ap (λ (slots : List (Option Descriptor)). in_slot slots fd) (get_or-set_same s.opens process row [] there)
          ∙ get_or-set_same (slots_of s process) fd (Some d) None within,
      tt,
    )
  where
    row_there : (rows : List (List (Option Descriptor))) (i : ℕ) → fd < length (slice_index_or rows i []) → i < length rows
    row_there [] i within = absurd (omega arith)
    row_there (row ∷ rows) zero within = omega arith
    row_there (row ∷ rows) (suc i) within = let rest : i < length rows = row_there rows i within in omega arith

-- whether the call attaches rights by a descriptor
abbrev pub attaches : Call → Bool
attaches (Enter name mode hows.Direct) = true
attaches (Map fd) = true
attaches call = false

-- the first Opened of entries without one before it
opened-first : (entries : List Entry) (e : Entry) (fd : ℕ) → list_any is_opened entries ≡ false → opened_fd (e ∷ []) ≡ Some fd →
    opened_fd (entries ++ e ∷ []) ≡ Some fd
opened-first [] e fd none is = is
opened-first (entries.Opened at file f mode how ∷ list) e fd none is = absurd (false≢true (sym none))
opened-first (other ∷ list) e fd none is = opened-first list e fd (or_parts (is_opened other) (list_any is_opened list) none).1 is

by_its_descriptor : (s : Store) (call : Call) (e : Entry) (fd f : ℕ) → HasRightDescriptor s (place_in s call (at_of e)) e → is_close e ≡ false →
    IsSome (descriptor_at s (at_of e).process f) → f ≡ fd → IsOpened (effect_of s (place_in s call (at_of e)) e) (at_of e).process fd
by_its_descriptor s call e fd f fits stays opened same =
    let d = some_of (descriptor_at s (at_of e).process f) opened in
    stays_open s call e fits (at_of e).process fd (λ closes. absurd (both_ways (is_close e) stays closes))
    (subst (λ (n : ℕ). IsOpened s (at_of e).process n) same (d.0, d.1, tt))

-- an entry of such a call that does not end it leaves its descriptor open
own_open : (s : Store) (call : Call) (e : Entry) (fd : ℕ) → attaches call ≡ true → IsOfCall (place_in s call (at_of e)) e →
    IsFirstOfKind (work_of s (at_of e).process) e → HasRightDescriptor s (place_in s call (at_of e)) e → is_end_of call e ≡ false →
    fd_of_call call (work_of s (at_of e).process ++ e ∷ []) ≡ Some fd → IsOpened (effect_of s (place_in s call (at_of e)) e) (at_of e).process fd
own_open s (Enter name mode hows.Direct) (entries.Opened at file f m how) fd does of once fits goes_on named =
    let call = Enter name mode hows.Direct in
    let e = entries.Opened at file f m how in
    let d : Descriptor = record { file = file; mode = m; how = how; attached = []; cleared = []; known = 0; told = 0 } in
    let same : f ≡ fd = same_Some f fd (sym (opened-first (work_of s at.process) e f once refl) ∙ named) in
    opened_after s call e at.process fd (subst (λ (n : ℕ). IsOpened (after_change s e) at.process n) same (opens s at.process f d fits))
own_open s (Enter name mode hows.Direct) (entries.Attached at f part) fd does of once fits goes_on named =
    let call = Enter name mode hows.Direct in
    let e = entries.Attached at f part in
    by_its_descriptor s call e fd f fits refl fits
    (same_Some f fd (sym (fd_of_call-append call (work_of s at.process) (e ∷ []) f of.fields) ∙ named))
own_open s (Map g) (entries.Attached at f part) fd does of once fits goes_on named =
    by_its_descriptor s (Map g) (entries.Attached at f part) fd f fits refl fits (same_Some f fd (sym of.fields ∙ named))
own_open s (Enter name mode hows.Direct) (entries.Mapped at f count) fd does of once fits goes_on named = absurd (false≢true (sym goes_on))
own_open s (Map g) (entries.Mapped at f count) fd does of once fits goes_on named = absurd (false≢true (sym goes_on))
own_open s (Enter name mode hows.Direct) (entries.Refused at None reason) fd does of once fits goes_on named = absurd (false≢true (sym goes_on))
own_open s (Map g) (entries.Refused at None reason) fd does of once fits goes_on named = absurd (false≢true (sym goes_on))
own_open s (Enter name mode hows.Direct) e fd does of once fits goes_on named = absurd (false≢true of.kind)
own_open s (Map g) e fd does of once fits goes_on named = absurd (false≢true of.kind)
own_open s (Enter name mode hows.Plain) e fd does of once fits goes_on named = absurd (false≢true does)
own_open s call e fd does of once fits goes_on named = absurd (false≢true does)

-- ---- every such call

-- each running direct open or map that has an entry has its descriptor open
record AreOpened (script : Script) (before : List Entry) (s : Store) : Type 0 where
  pub is_open : (at : At) (call : Call) (fd : ℕ) → call_at script at ≡ Some call → IsNextCall script before at → attaches call ≡ true →
      work_of s at.process ≢ [] → fd_of_call call (work_of s at.process) ≡ Some fd → IsOpened s at.process fd

-- an entry that does not end a call of the kind is none that ends it alone
unended_by : (call : Call) (before : List Entry) (e : Entry) → attaches call ≡ true → is_ended_by call (before ++ e ∷ []) ≡ false → is_end_of call e ≡ false
unended_by call before e does goes_on =
    (or_parts (is_end_of call e) false
    (or_parts (list_any (is_end_of call) before) (list_any (is_end_of call) (e ∷ []))
    (sym (list_any-append (is_end_of call) before (e ∷ [])) ∙ by call does goes_on)).1).0
  where
    by : (c : Call) → attaches c ≡ true → is_ended_by c (before ++ e ∷ []) ≡ false → list_any (is_end_of c) (before ++ e ∷ []) ≡ false
    by (Enter name mode hows.Direct) does goes_on = goes_on
    by (Map fd) does goes_on = goes_on
    by (Enter name mode hows.Plain) does goes_on = absurd (false≢true does)
    by c does goes_on = absurd (false≢true does)

opened-push : (v : Volume) (script : Script) (before : List Entry) (s : Store) (call : Call) (e : Entry) → IsNextOf v script before s call e →
    AreOpened script before s → AreOpened script (before ++ e ∷ []) (effect_of s (place_in s call (at_of e)) e)
opened-push v script before s call e next holds = record {
  is_open = λ at other fd called then does some named.
      let after = effect_of s (place_in s call (at_of e)) e in
      running_cases v script before s call e next at then some (IsOpened after at.process fd)
      (λ differ was had.
      stays_open s call e (next.keeps IsOpen) at.process fd (λ closes. differ)
      (holds.is_open at other fd called was does had
      (sym (ap (fd_of_call other) (work-other s call e at.process differ)) ∙ named)))
      (λ mine running.
      let is : call ≡ other = same_Some call other (sym next.call_is ∙ ap (call_at script) (sym mine) ∙ called) in
      let work : work_of after (at_of e).process ≡ work_of s (at_of e).process ++ e ∷ [] = work-grown v script before s call e next running in
      let mine_named : fd_of_call call (work_of s (at_of e).process ++ e ∷ []) ≡ Some fd =
      ap (fd_of_call call) (sym work) ∙ ap (λ (c : Call). fd_of_call c (work_of after (at_of e).process)) is
      ∙ ap (λ (a : At). fd_of_call other (work_of after a.process)) (sym mine) ∙ named in
      let kind : attaches call ≡ true = ap attaches is ∙ does in
      subst (λ (a : At). IsOpened after a.process fd) (sym mine)
      (own_open s call e fd kind (of_call-in_store v script before s call e next)
      (subst (λ (entries : List Entry). IsFirstOfKind entries e) (sym (work-is_of_call v script before s call e next)) (next.fits Once))
      (next.keeps IsOpen) (unended_by call (work_of s (at_of e).process) e kind running) mine_named));
}

-- a direct open or a map of a legal journal that has an entry has its descriptor open
pub descriptors_are_open : (v : Volume) (script : Script) (before : List Entry) (s : Store) → IsHistory v script before s →
    (at : At) (call : Call) (fd : ℕ) → call_at script at ≡ Some call → IsNextCall script before at → attaches call ≡ true →
    work_of s at.process ≢ [] → fd_of_call call (work_of s at.process) ≡ Some fd → (d : Descriptor) × (descriptor_at s at.process fd ≡ Some d)
descriptors_are_open v script before s history at call fd called next does some named =
    let all : AreOpened script before s =
    history_holds v script (AreOpened script)
    (record { is_open = λ at call fd called next does some named. absurd (some (none_at_start v script at.process)) })
    (opened-push v script) before s history in
    let has = all.is_open at call fd called next does some named in
    (has.0, has.1)
