-- No call ends while a right that it cleared is still attached.
use Rattle.std.proofs.Common.{◌≡◌, ◌≢◌, ℕ, ◌<◌, true, false, not, ◌&&◌, cond, List, [], ◌∷◌, ◌++◌, Option, None, Some, refl, sym, ap, ◌∙◌, subst, arith, ⊎_elim}
use Rattle.std.specs.Prelude.{nat_lt}
use Rattle.std.specs.Option.{option_and_then, option_map_or, option_or, option_to_list}
use Rattle.std.specs.List.{list_any}
use Rattle.std.specs.FinMap as fin
use Rattle.std.proofs.lemmas.Bool.{and_from, both_ways, cases_Bool, false≢true, false_from_ne_true, ltb-true}
use Rattle.std.proofs.lemmas.List.{append-nil}
use Rattle.std.proofs.lemmas.Option.{none-some, same_Some}
use Rattle.bd_base.specs.declared.journal.At.{At}
use Rattle.bd_base.specs.declared.key.Key.{Key}
use Rattle.bd_base.specs.declared.reason.Reason.{Reason}
use Rattle.bd_base.specs.declared.script.Call.{Call}
use Rattle.bd_base.specs.declared.script.Call.TheVariants.{Enter, Truncate, Unlink, Map, Close}
use Rattle.bd_base.specs.declared.script.How.TheVariants as hows
use Rattle.bd_base.specs.declared.script.Mode.{Mode}
use Rattle.bd_base.specs.declared.volume.Inode.{Inode}
use Rattle.bd_base.specs.declared.volume.Volume.{Volume}
use Rattle.bd_base.specs.Inodes.{growth_refusal}
use Rattle.bd_entry.specs.declared.entry.Entry.{Entry}
use Rattle.bd_entry.specs.declared.entry.Entry.TheVariants as entries
use Rattle.bd_entry.specs.Actions.{is_none_of}
use Rattle.bd_entry.specs.Calls.{Place, at_of, fd_of_call, is_end_of, is_ended_by, is_made_by}
use Rattle.bd_entry.specs.Refusals.{file_of, first_refusal, growth_reason, growth_reason_of, refusal_of, truncation_goal}
use Rattle.bd_entry.specs.Rules.{NotRefused, RightFile, Rights, WithinLimit, place_in}
use Rattle.bd_entry.specs.RulesOfCalls.{MayClear, OpensAs}
use Rattle.bd_entry.specs.RulesOfContents.{AsksForSize}
use Rattle.bd_entry.specs.RulesOfRights.{HasNoRights, NoRightsWherePlain}
use Rattle.bd_entry.specs.Store.{Descriptor, descriptor_at, file_in, has_part, has_rights_on, size_in}
use Rattle.bd_entry.proofs.Accesses.{of_call-in_store}
use Rattle.bd_entry.proofs.CallEntries.{last_passes}
use Rattle.bd_entry.proofs.Descriptors.{rights-on}
use Rattle.bd_entry.proofs.NextActs.{then_from}
use Rattle.bd_entry.proofs.NextCloses.{keys_on-none}
use Rattle.bd_entry.proofs.NextFiles.{cond_from}
use Rattle.bd_tables.specs.declared.state.Right.{Right}
use Rattle.bd_turns.specs.Reached.{IsReached}
use Rattle.bd_turns.specs.Sound.{IsRightOf, is_clear, is_clear_at, is_release, keeps_allowed}
use Rattle.bd_turns.specs.State.{Progress, State, has_ended, outstanding, progress_of, running}
use Rattle.bd_turns.specs.Turns.{holds_throughout}
use Rattle.bd_turns.proofs.ClearingCalls.{any-weaker}
use Rattle.bd_turns.proofs.ActionsOfCalls.{no_commands, throughout-no_pieces}
use Rattle.bd_turns.proofs.CallsAfterTurns.{Ends}
use Rattle.bd_turns.proofs.EffectiveTurns.{Turned}
use Rattle.bd_turns.proofs.EntriesOfCalls.{ClearsKey, added_place, cleared_by, clears-throughout}
use Rattle.bd_turns.proofs.TruncationsAfterTurns as truncations

-- ---- the entry that ends a call

-- a call that holds its file throughout is ended by one entry
pub last_is_end : (call : Call) (before : List Entry) (e : Entry) → holds_throughout call ≡ true → is_ended_by call before ≡ false →
    is_ended_by call (before ++ e ∷ []) ≡ true → is_end_of call e ≡ true
last_is_end (Enter name mode how) before e through running ended = last_passes (is_end_of (Enter name mode how)) before e running ended
last_is_end (Truncate fd size) before e through running ended = last_passes (is_end_of (Truncate fd size)) before e running ended
last_is_end (Unlink name) before e through running ended = last_passes (is_end_of (Unlink name)) before e running ended
last_is_end (Map fd) before e through running ended = last_passes (is_end_of (Map fd)) before e running ended
last_is_end (Close fd) before e through running ended = last_passes (is_end_of (Close fd)) before e running ended
last_is_end call before e through running ended = absurd (false≢true through)

-- an entry that clears the right of a key clears one
pub clear_at-clears : (key : Key) (e : Entry) → is_clear_at key e ≡ true → is_clear e ≡ true
clear_at-clears key (entries.Cleared at owner fd part) is = refl
clear_at-clears key e is = absurd (false≢true is)

module _ (v : Volume) (m next : State) (p : Place) (entry : Option Entry) (g : Progress) (reached : IsReached v m) (t : Turned v m next p entry g) where
  abbrev process : ℕ
  process = p.at.process

  abbrev added : List Entry
  added = option_to_list entry

  -- a running call that holds its file throughout has no entry that ends it
  pub unfinished : holds_throughout p.call ≡ true → is_ended_by p.call p.before ≡ false
  unfinished through =
      let none = no_commands m p reached.sound.calls t.runs (throughout-no_pieces p.call through) in
      false_from_ne_true (is_ended_by p.call p.before)
      (λ ended.
      both_ways (has_ended p.call p.before (progress_of m process)) (reached.sound.calls.unended process p t.runs)
      (and_from (is_ended_by p.call p.before) (is_none_of (outstanding (progress_of m process))) ended (ap is_none_of none)))

  -- so it is ended by the entry that the turn adds
  pub ended_by_entry : Ends next p added g → holds_throughout p.call ≡ true → (e : Entry) × (entry ≡ Some e) × (is_end_of p.call e ≡ true)
  ended_by_entry ends through = by entry refl ends.ended
    where
      by : (o : Option Entry) → entry ≡ o → is_ended_by p.call (p.before ++ option_to_list o) ≡ true →
          (e : Entry) × (entry ≡ Some e) × (is_end_of p.call e ≡ true)
      by None is ended =
          absurd (both_ways (is_ended_by p.call p.before) (unfinished through) (sym (ap (is_ended_by p.call) (append-nil p.before)) ∙ ended))
      by (Some e) is ended = (e, is, last_is_end p.call p.before e through (unfinished through) ended)

  -- ---- a right that the call cleared

  module _ (key : Key) (right : Right) (is : fin.get m.tables.rights key ≡ Some right) (held : (progress_of m process).held ≡ Some right.file)
      (cleared : list_any (is_clear_at key) p.before ≡ true) where
    clearing : ClearsKey p.call process key
    clearing = cleared_by v m p key reached.history t.runs cleared

    -- the call holds its file throughout
    pub revoking-through : holds_throughout p.call ≡ true
    revoking-through = clears-throughout p.call clearing.at key.process key.fd key.part clearing.made

    -- the file of the right is that of the call
    pub revoking-file : file_of m.store p ≡ Some right.file
    revoking-file =
        let holds = reached.sound.holds_are.holds process right.file held in
        subst (λ (x : Place). file_of m.store x ≡ Some right.file) (same_Some holds.0 p (sym holds.1 ∙ t.runs)) holds.2

    some_before : p.before ≢ []
    some_before none = false≢true (sym (ap (list_any (is_clear_at key)) none) ∙ cleared)

    -- no refusal holds of it
    not_refused : keeps_allowed p.call ≡ true → first_refusal m.store process p.call ≡ None
    not_refused keeps = reached.sound.holds_are.allowed process p t.runs keeps (by p.before (outstanding (progress_of m process)) some_before)
      where
        by : (before : List Entry) (xs : List ℕ) → before ≢ [] → not (is_none_of before && is_none_of xs) ≡ true
        by [] xs some = absurd (some refl)
        by (e ∷ before) xs some = refl

    -- the right is attached
    the_right : (d : Descriptor) × (descriptor_at m.store key.process key.fd ≡ Some d) × IsRightOf key right d
    the_right = reached.sound.tables_are.rights.told key right is

    some_part : (d : Descriptor) → has_part key.part d.attached ≡ true → d.attached ≢ []
    some_part d has none = false≢true (sym (ap (has_part key.part) none) ∙ has)

    some_rights : HasNoRights m.store right.file → ⊥
    some_rights none =
        let there = the_right in
        both_ways (has_rights_on m.store right.file) none
        (ap (has_rights_on m.store) there.2.file
        ∙ rights-on m.store key.process key.fd there.0 there.1 (some_part there.0 there.2.attached))

    -- the file of the entry is that of the right
    the_file : (e : Entry) (file : ℕ) → entry ≡ Some e → file_of m.store (place_in m.store p.call (at_of e)) ≡ Some file → file ≡ right.file
    the_file e file is_e of =
        same_Some file right.file
        (sym (subst (λ (x : Place). file_of m.store x ≡ Some file) (added_place v m p e (t.added e is_e)) of) ∙ revoking-file)

    -- why the call is refused in the middle
    refused_for : (at : At) (reason : Reason) → entry ≡ Some (entries.Refused at None reason) → keeps_allowed p.call ≡ true →
        option_and_then (growth_reason_of m.store p) (truncation_goal p.call) ≡ Some reason
    refused_for at reason is_e keeps =
        let e : Entry = entries.Refused at None reason in
        let first : refusal_of m.store p ≡ Some reason =
        subst (λ (x : Place). refusal_of m.store x ≡ Some reason) (added_place v m p e (t.added e is_e)) ((t.added e is_e).next.keeps NotRefused).first in
        ap (λ (o : Option Reason). option_or o (option_and_then (growth_reason_of m.store p) (truncation_goal p.call))) (sym (not_refused keeps)) ∙ first

    -- ---- the kinds of calls

    plain_open : (name : List ℕ) (mode : Mode) → p.call ≡ Enter name mode hows.Plain → (e : Entry) → entry ≡ Some e →
        is_end_of (Enter name mode hows.Plain) e ≡ true → ⊥
    plain_open name mode call (entries.Opened at file fd m_of how) is_e ends =
        let e : Entry = entries.Opened at file fd m_of how in
        let a = t.added e is_e in
        let fields : OpensAs (Enter name mode hows.Plain) m_of how =
        subst (λ (c : Call). OpensAs c m_of how) call (of_call-in_store v m.script m.journal m.store p.call e a.next).fields in
        let none : HasNoRights m.store file = subst (λ (h : _). NoRightsWherePlain m.store h file) fields.1 (a.next.keeps Rights) in
        some_rights (subst (HasNoRights m.store) (the_file e file is_e (a.next.keeps RightFile)) none)
    plain_open name mode call (entries.Refused at None reason) is_e ends =
        none-some reason
        (sym (ap (λ (c : Call). option_and_then (growth_reason_of m.store p) (truncation_goal c)) call) ∙ refused_for at reason is_e (ap keeps_allowed call))
    plain_open name mode call e is_e ends = false≢true ends

    close : (fd : ℕ) → p.call ≡ Close fd → (e : Entry) → entry ≡ Some e → is_end_of (Close fd) e ≡ true → ⊥
    close fd call (entries.Closed at number) is_e ends =
        let e : Entry = entries.Closed at number in
        let a = t.added e is_e in
        let of : Some fd ≡ Some number =
        subst (λ (c : Call). fd_of_call c p.before ≡ Some number) call
        (subst (λ (x : Place). fd_of_call x.call x.before ≡ Some number) (added_place v m p e a)
        (of_call-in_store v m.script m.journal m.store p.call e a.next).fields) in
        let may = subst (λ (c : Call). MayClear c process key.process key.fd) call clearing.may in
        let bare = a.next.keeps Rights in
        let there = the_right in
        let mine : at.process ≡ process = ap (λ (x : At). x.process) a.at_is in
        let same : descriptor_at m.store key.process key.fd ≡ descriptor_at m.store at.process number =
        ap (λ (k : ℕ). descriptor_at m.store k key.fd) (may.0 ∙ sym mine)
        ∙ ap (descriptor_at m.store at.process) (may.1 ∙ same_Some fd number of) in
        let one : bare.0 ≡ there.0 = same_Some bare.0 there.0 (sym bare.1 ∙ sym same ∙ there.1) in
        some_part there.0 there.2.attached (ap (λ (d : Descriptor). d.attached) (sym one) ∙ bare.2)
    close fd call (entries.Refused at None reason) is_e ends =
        none-some reason
        (sym (ap (λ (c : Call). option_and_then (growth_reason_of m.store p) (truncation_goal c)) call) ∙ refused_for at reason is_e (ap keeps_allowed call))
    close fd call e is_e ends = false≢true ends

    -- a truncation lowers the size still, as rights are left
    still_lowers : (fd size : ℕ) → p.call ≡ Truncate fd size → size < size_in m.store right.file
    still_lowers fd size call =
        let truncating = reached.sound.holds_are.truncating process p fd size t.runs call in
        let some_clear : list_any is_clear p.before ≡ true = any-weaker (is_clear_at key) is_clear p.before (clear_at-clears key) cleared in
        ⊎_elim
        (λ released. absurd (some_rights (keys_on-none m.store right.file (truncating.without_rights released right.file revoking-file))))
        (λ unreleased. truncating.lowers some_clear unreleased right.file revoking-file)
        (cases_Bool (list_any is_release p.before))

    -- so it is not refused, since it does not grow
    growing : (size : ℕ) (reason : Reason) → growth_reason m.store right.file size ≡ Some reason → size < size_in m.store right.file → ⊥
    growing size reason why lower =
        let found = then_from (λ (f : Inode). cond (nat_lt f.size size) (growth_refusal m.store.total m.store.files f size) None)
        (file_in m.store right.file) reason why in
        let is_size : size_in m.store right.file ≡ found.0.size = ap (λ (o : Option Inode). option_map_or (λ (f : Inode). f.size) o 0) found.1 in
        ⊎_elim
        (λ below. let grows : found.0.size < size = ltb-true found.0.size size below.0 in omega arith)
        (λ there. none-some reason there.1)
        (cond_from (nat_lt found.0.size size) (growth_refusal m.store.total m.store.files found.0 size) None (Some reason) found.2)

    truncation : (fd size : ℕ) → p.call ≡ Truncate fd size → (e : Entry) → entry ≡ Some e → is_end_of (Truncate fd size) e ≡ true → ⊥
    truncation fd size call (entries.Sized at number to) is_e ends =
        let e : Entry = entries.Sized at number to in
        let a = t.added e is_e in
        let right_of = a.next.keeps Rights in
        let within = a.next.keeps WithinLimit in
        let asked : to ≡ size = subst (λ (c : Call). AsksForSize c to) call within.2.0 in
        let same : right_of.0.file ≡ right.file =
        same_Some right_of.0.file right.file
        (sym (truncations.sized_file v m next p entry g reached t at number to right_of.0 is_e right_of.1) ∙ revoking-file) in
        let lower : to < size_in m.store right_of.0.file =
        subst (λ (k : ℕ). to < size_in m.store k) (sym same) (subst (λ (n : ℕ). n < size_in m.store right.file) (sym asked) (still_lowers fd size call)) in
        some_rights (subst (HasNoRights m.store) same (right_of.2 lower))
    truncation fd size call (entries.Refused at None reason) is_e ends =
        let why : growth_reason_of m.store p size ≡ Some reason =
        sym (ap (λ (c : Call). option_and_then (growth_reason_of m.store p) (truncation_goal c)) call) ∙ refused_for at reason is_e (ap keeps_allowed call) in
        growing size reason (sym (ap (option_and_then (λ (file : ℕ). growth_reason m.store file size)) revoking-file) ∙ why) (still_lowers fd size call)
    truncation fd size call e is_e ends = false≢true ends

    -- it does not end
    pub revoking-ends_not : Ends next p added g → ⊥
    revoking-ends_not ends =
        let end = ended_by_entry ends revoking-through in
        by p.call refl clearing.made end.0 end.1 end.2
      where
        by : (call : Call) → p.call ≡ call → is_made_by call (entries.Cleared clearing.at key.process key.fd key.part) ≡ true → (e : Entry) →
            entry ≡ Some e → is_end_of p.call e ≡ true → ⊥
        by (Enter name mode hows.Plain) call made e is_e ends_it = plain_open name mode call e is_e (subst (λ (c : Call). is_end_of c e ≡ true) call ends_it)
        by (Truncate fd size) call made e is_e ends_it = truncation fd size call e is_e (subst (λ (c : Call). is_end_of c e ≡ true) call ends_it)
        by (Close fd) call made e is_e ends_it = close fd call e is_e (subst (λ (c : Call). is_end_of c e ≡ true) call ends_it)
        by (Enter name mode hows.Direct) call made e is_e ends_it = false≢true made
        by other call made e is_e ends_it = false≢true made
