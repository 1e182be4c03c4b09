-- Whatever a call does next, the entry that it adds is legal.
use Rattle.std.proofs.Common.{◌≡◌, ℕ, false, List, [], ◌∷◌, ◌++◌, refl, sym, ◌∙◌, subst}
use Rattle.std.proofs.lemmas.Option.{none-some}
use Rattle.bd_base.specs.declared.script.Call.TheVariants.{Enter, Create, Read, Write, Truncate, Unlink, Size, Map, Close, RawRead, RawWrite}
use Rattle.bd_base.specs.declared.script.How.TheVariants as hows
use Rattle.bd_base.specs.Bounds.{Bounds}
use Rattle.bd_base.specs.declared.journal.At.{At}
use Rattle.bd_entry.specs.Calls.{Place, at_of, is_ended_by}
use Rattle.bd_entry.specs.Effects.{effect_of}
use Rattle.bd_entry.specs.History.{Step}
use Rattle.bd_entry.specs.Laws.{AreOfCall, IsNextEntry}
use Rattle.bd_entry.specs.NextEntries.{IsLegalAt, NextEntriesAreLegal, NextEntriesLeadOn, running}
use Rattle.bd_entry.specs.Rules.{EntryRule, FitsStore, place_in}
use Rattle.bd_entry.specs.Store.{Valid, work_of}
use Rattle.bd_entry.proofs.CallOrder.{AreOfCall-push}
use Rattle.bd_entry.proofs.NextActs.{OwnIsLegal, next_from_own}
use Rattle.bd_entry.proofs.NextCalls.{creates_are_legal, sizes_read_are_legal}
use Rattle.bd_entry.proofs.NextCloses.{closes_are_legal, plain_opens_are_legal}
use Rattle.bd_entry.proofs.NextFiles.{removals_are_legal, truncations_are_legal}
use Rattle.bd_entry.proofs.NextOpens.{direct_opens_are_legal, maps_are_legal}
use Rattle.bd_entry.proofs.NextPieces.{reads_are_legal, submitted_adds_none, writes_are_legal}
use Rattle.bd_entry.proofs.StoreLaws.{step_keeps_valid}

-- raw commands add no entry by themselves
raw_read_is_legal : (address : ℕ) (range : Bounds) → OwnIsLegal (RawRead address range)
raw_read_is_legal address range s holders at before outstanding act e ready own adds =
    let r = running (RawRead address range) at before outstanding in
    absurd (none-some e (sym (submitted_adds_none s r act own.own) ∙ adds))

raw_write_is_legal : (address lo : ℕ) (bytes : List ℕ) → OwnIsLegal (RawWrite address lo bytes)
raw_write_is_legal address lo bytes s holders at before outstanding act e ready own adds =
    let r = running (RawWrite address lo bytes) at before outstanding in
    absurd (none-some e (sym (submitted_adds_none s r act own.own) ∙ adds))

pub next_entries_are_legal : NextEntriesAreLegal
next_entries_are_legal (Enter name mode hows.Plain) = plain_opens_are_legal name mode
next_entries_are_legal (Enter name mode hows.Direct) = direct_opens_are_legal name mode
next_entries_are_legal (Create name perms) = creates_are_legal name perms
next_entries_are_legal (Read fd off len) = reads_are_legal fd off len
next_entries_are_legal (Write fd off bytes) = writes_are_legal fd off bytes
next_entries_are_legal (Truncate fd size) = truncations_are_legal fd size
next_entries_are_legal (Unlink name) = removals_are_legal name
next_entries_are_legal (Size fd) = sizes_read_are_legal fd
next_entries_are_legal (Map fd) = maps_are_legal fd
next_entries_are_legal (Close fd) = closes_are_legal fd
next_entries_are_legal (RawRead address range) = next_from_own (RawRead address range) (raw_read_is_legal address range)
next_entries_are_legal (RawWrite address lo bytes) = next_from_own (RawWrite address lo bytes) (raw_write_is_legal address lo bytes)

-- ---- the step of the next entry

pub next_entries_lead_on : NextEntriesLeadOn
next_entries_lead_on s holders call at outstanding act e ready is adds =
    let before = work_of s at.process in
    let p : Place = place_in s call at in
    let legal : IsLegalAt s p e = next_entries_are_legal call s holders at before outstanding act e ready is adds in
    let start : At → Place = λ a. record { call = call; at = a; before = [] } in
    let of_call : AreOfCall (start at) (before ++ e ∷ []) = AreOfCall-push (start at) before e ready.of_call legal.of_call legal.once in
    let back : at ≡ at_of e = sym legal.of_place in
    let next : IsNextEntry s call e =
    record {
      of_call = subst (λ (a : At). AreOfCall (start a) (work_of s a.process ++ e ∷ [])) back of_call;
      unfinished = subst (λ (a : At). is_ended_by call (work_of s a.process) ≡ false) back ready.unfinished;
    } in
    let step : Step s p e (effect_of s p e) = record { keeps = legal.keeps; after = refl } in
    let valid : Valid (effect_of s (place_in s call (at_of e)) e) =
    step_keeps_valid s call e (effect_of s (place_in s call (at_of e)) e) ready.valid ready.within next
    (record { keeps = subst (λ (a : At). (rule : EntryRule) → FitsStore s (place_in s call a) e rule) back legal.keeps; after = refl }) in
    record { next = next; step = step; valid = subst (λ (a : At). Valid (effect_of s (place_in s call a) e)) legal.of_place valid }
