-- The next entries of opens and maps are legal: an open, a right that is attached, and the number of rights.
use Rattle.std.proofs.Common.{◌≡◌, ℕ, Bool, true, false, not, ◌&&◌, cond, List, [], ◌∷◌, length, Option, None, Some, refl, sym, ap, ◌∙◌, subst, ⊎_elim}
use Rattle.std.specs.Prelude.{is_some}
use Rattle.std.specs.Option.{option_map, option_map_or, option_or}
use Rattle.std.specs.List.{list_any}
use Rattle.std.proofs.lemmas.Bool.{and_parts, false≢true}
use Rattle.std.proofs.lemmas.Option.{cond_some, none-some, same_Some}
use Rattle.bd_base.specs.declared.reason.Reason.{Reason}
use Rattle.bd_base.specs.declared.reason.Reason.TheVariants as reasons
use Rattle.bd_base.specs.declared.script.Call.TheVariants.{Enter, Map}
use Rattle.bd_base.specs.declared.script.How.{How}
use Rattle.bd_base.specs.declared.script.How.TheVariants as hows
use Rattle.bd_base.specs.declared.script.Mode.{Mode}
use Rattle.bd_base.specs.declared.journal.At.{At}
use Rattle.bd_base.specs.Inodes.{id_of}
use Rattle.bd_entry.specs.declared.act.Act.{Act}
use Rattle.bd_entry.specs.declared.act.Act.TheVariants as acts
use Rattle.bd_entry.specs.declared.entry.Entry.{Entry}
use Rattle.bd_entry.specs.declared.entry.Entry.TheVariants as entries
use Rattle.bd_entry.specs.Actions.{attach_by, attach_or_map, entry_of_act, open_file}
use Rattle.bd_entry.specs.Calls.{Place, fd_of, is_end_of, is_made_by, is_opened, opened_fd}
use Rattle.bd_entry.specs.Laws.{AreOfCall}
use Rattle.bd_entry.specs.NextEntries.{IsLegalAt, NextIsLegal, running}
use Rattle.bd_entry.specs.Refusals.{denial, first_refusal, reason_if}
use Rattle.bd_entry.specs.Rules.{Allowed, EntryRule, FitsStore, IsOpen, NoPlain, NotRefused, RightFile, Rights}
use Rattle.bd_entry.specs.RulesOfContents.{MayBegin}
use Rattle.bd_entry.specs.RulesOfRights.{NoRightsWherePlain}
use Rattle.bd_entry.specs.Store.{Descriptor, Store, descriptor_at, has_fragment, has_plain, lowest_fd, lowest_unattached, next_part}
use Rattle.bd_entry.proofs.NextActs.{OwnIsLegal, entry_by, is_there, map_from, map_or_from, next_from_own, none_outstanding, or_none, then_from}

-- ---- rights that are attached

pub not-true : (b : Bool) → not b ≡ true → b ≡ false
not-true true is = absurd (false≢true is)
not-true false is = refl

-- the part on which a descriptor can be given a right next
record IsNextPart (s : Store) (d : Descriptor) (part : ℕ) : Type 0 where
  lowest : lowest_unattached s d ≡ Some part
  no_plain : has_plain s d.file ≡ false
  fragment : has_fragment s d.file part ≡ true

next_part-is : (s : Store) (d : Descriptor) (part : ℕ) → next_part s d ≡ Some part → IsNextPart s d part
next_part-is s d part is =
    let can : ℕ → Bool = λ part. not (has_plain s d.file) && has_fragment s d.file part in
    let found = then_from (λ part. cond (can part) (Some part) None) (lowest_unattached s d) part is in
    let given = cond_some (can found.0) found.0 part found.2 in
    let parts = and_parts (not (has_plain s d.file)) (has_fragment s d.file found.0) given.0 in
    subst (IsNextPart s d) given.1
    (record { lowest = found.1; no_plain = not-true (has_plain s d.file) parts.0; fragment = parts.1 })

attached-keeps : (s : Store) (p : Place) (fd part : ℕ) (d : Descriptor) → descriptor_at s p.at.process fd ≡ Some d → IsNextPart s d part → MayBegin s p →
    (rule : EntryRule) → FitsStore s p (entries.Attached p.at fd part) rule
attached-keeps s p fd part d is next may IsOpen = is_there (descriptor_at s p.at.process fd) d is
attached-keeps s p fd part d is next may Rights = (d, is, (next.lowest, next.fragment))
attached-keeps s p fd part d is next may NoPlain = (d, is, next.no_plain)
attached-keeps s p fd part d is next may NotRefused = may
attached-keeps s p fd part d is next may rule = tt

mapped-keeps : (s : Store) (p : Place) (fd : ℕ) (d : Descriptor) → descriptor_at s p.at.process fd ≡ Some d → next_part s d ≡ None → MayBegin s p →
    (rule : EntryRule) → FitsStore s p (entries.Mapped p.at fd (length d.attached)) rule
mapped-keeps s p fd d is none may IsOpen = is_there (descriptor_at s p.at.process fd) d is
mapped-keeps s p fd d is none may Rights = (d, is, (refl, none))
mapped-keeps s p fd d is none may NotRefused = may
mapped-keeps s p fd d is none may rule = tt

-- the call attaches rights by this descriptor, and tells how many there are
record Attaches (p : Place) (fd : ℕ) : Type 0 where
  by : fd_of p ≡ Some fd
  attached : (part : ℕ) → is_made_by p.call (entries.Attached p.at fd part) ≡ true
  mapped : (count : ℕ) → is_made_by p.call (entries.Mapped p.at fd count) ≡ true

attach_is_legal : (s : Store) (p : Place) (fd : ℕ) (act : Act) (e : Entry) → Attaches p fd → MayBegin s p → attach_by s p fd ≡ Some act →
    entry_of_act s p act ≡ Some e → IsLegalAt s p e
attach_is_legal s p fd act e attaches may own adds =
    let found = map_from (attach_or_map s) (descriptor_at s p.at.process fd) act own in
    let d : Descriptor = found.0 in
    ⊎_elim
    (λ next.
    let entry : ℕ → Entry = λ by. entries.Attached p.at by next.0 in
    subst (IsLegalAt s p) (entry_by entry p fd e attaches.by (ap (entry_of_act s p) next.2 ∙ adds))
    (record {
      of_call = record { kind = attaches.attached next.0; fields = attaches.by };
      of_place = refl;
      once = tt;
      keeps = attached-keeps s p fd next.0 d found.1 (next_part-is s d next.0 next.1) may;
    }))
    (λ none.
    let entry : ℕ → Entry = λ by. entries.Mapped p.at by (length d.attached) in
    subst (IsLegalAt s p) (entry_by entry p fd e attaches.by (ap (entry_of_act s p) none.1 ∙ adds))
    (record {
      of_call = record { kind = attaches.mapped (length d.attached); fields = attaches.by };
      of_place = refl;
      once = tt;
      keeps = mapped-keeps s p fd d found.1 none.0 may;
    }))
    (map_or_from acts.Attach (next_part s d) (acts.Mapped (length d.attached)) act found.2)

-- ---- maps

map_is_legal : (fd : ℕ) → OwnIsLegal (Map fd)
map_is_legal fd s holders at before outstanding act e ready own adds =
    let r = running (Map fd) at before outstanding in
    let none : outstanding ≡ [] = none_outstanding outstanding (λ number some. false≢true (ready.outstanding number some)) in
    attach_is_legal s r.place fd act e (record { by = refl; attached = λ part. refl; mapped = λ count. refl }) (own.may_begin none) own.own adds

pub maps_are_legal : (fd : ℕ) → NextIsLegal (Map fd)
maps_are_legal fd = next_from_own (Map fd) (map_is_legal fd)

-- ---- opens

-- an open of this call takes the lowest free descriptor
pub record Opens (s : Store) (p : Place) (name : List ℕ) (mode : Mode) (how : How) : Type 0 where
  pub kind : (file fd : ℕ) → is_made_by (Enter name mode how) (entries.Opened p.at file fd mode how) ≡ true
  pub once : list_any is_opened p.before ≡ false
  pub not_refused : first_refusal s p.at.process (Enter name mode how) ≡ None
  pub no_rights : (file : ℕ) → id_of name s.files ≡ Some file → NoRightsWherePlain s how file

-- an open that is not refused is not denied
not_denied : (s : Store) (process file : ℕ) (name : List ℕ) (mode : Mode) (how : How) → first_refusal s process (Enter name mode how) ≡ None →
    id_of name s.files ≡ Some file → denial s process mode file ≡ None
not_denied s process file name mode how none is =
    let why : ℕ → Option Reason = λ file. option_or (denial s process mode file) (reason_if (not (is_some (lowest_fd s process))) reasons.FdsFull) in
    (or_none (denial s process mode file) (reason_if (not (is_some (lowest_fd s process))) reasons.FdsFull)
    (sym (ap (λ (o : Option ℕ). option_map_or why o (Some reasons.NoFile)) is) ∙ none)).0

pub open_is_legal : (s : Store) (at : At) (before : List Entry) (name : List ℕ) (mode : Mode) (how : How) (act : Act) (e : Entry) →
    let p : Place = record { call = Enter name mode how; at = at; before = before } in
    Opens s p name mode how → open_file s p ≡ Some act → entry_of_act s p act ≡ Some e → IsLegalAt s p e
open_is_legal s at before name mode how act e opens own adds =
    let p : Place = record { call = Enter name mode how; at = at; before = before } in
    let of = then_from (λ file. option_map (acts.Opened file) (lowest_fd s at.process)) (id_of name s.files) act own in
    let low = map_from (acts.Opened of.0) (lowest_fd s at.process) act of.2 in
    let entry : Entry = entries.Opened at of.0 low.0 mode how in
    subst (IsLegalAt s p) (same_Some entry e (ap (entry_of_act s p) low.2 ∙ adds))
    (record {
      of_call = record { kind = opens.kind of.0 low.0; fields = (refl, refl) };
      of_place = refl;
      once = opens.once;
      keeps = keeps of.0 low.0 of.1 low.1;
    })
  where
    keeps : (file fd : ℕ) → id_of name s.files ≡ Some file → lowest_fd s at.process ≡ Some fd → (rule : EntryRule) →
        FitsStore s (record { call = Enter name mode how; at = at; before = before }) (entries.Opened at file fd mode how) rule
    keeps file fd of low IsOpen = low
    keeps file fd of low RightFile = of
    keeps file fd of low Allowed = not_denied s at.process file name mode how opens.not_refused of
    keeps file fd of low Rights = opens.no_rights file of
    keeps file fd of low NotRefused = λ empty. opens.not_refused
    keeps file fd of low rule = tt

-- a direct open that has not opened has no entry
pub unopened : (name : List ℕ) (mode : Mode) (at : At) (before : List Entry) →
    AreOfCall (record { call = Enter name mode hows.Direct; at = at; before = [] }) before →
    list_any (is_end_of (Enter name mode hows.Direct)) before ≡ false → opened_fd before ≡ None → before ≡ []
unopened name mode at [] of unfinished none = refl
unopened name mode at (entries.Opened by file fd m h ∷ before) of unfinished none = absurd (none-some fd (sym none))
unopened name mode at (entries.Attached by fd part ∷ before) of unfinished none = absurd (none-some fd of.0.fields)
unopened name mode at (entries.Mapped by fd count ∷ before) of unfinished none = absurd (none-some fd of.0.fields)
unopened name mode at (entries.Refused by None reason ∷ before) of unfinished none = absurd (false≢true (sym unfinished))
unopened name mode at (e ∷ before) of unfinished none = absurd (false≢true of.0.kind)

direct_open_is_legal : (name : List ℕ) (mode : Mode) → OwnIsLegal (Enter name mode hows.Direct)
direct_open_is_legal name mode s holders at before outstanding act e ready own adds =
    let r = running (Enter name mode hows.Direct) at before outstanding in
    let p = r.place in
    let none : outstanding ≡ [] = none_outstanding outstanding (λ number some. false≢true (ready.outstanding number some)) in
    let may : MayBegin s p = own.may_begin none in
    ⊎_elim
    (λ opened.
    attach_is_legal s p opened.0 act e (record { by = opened.1; attached = λ part. refl; mapped = λ count. refl }) may opened.2 adds)
    (λ new.
    let empty : before ≡ [] = unopened name mode at before ready.of_call ready.unfinished new.0 in
    open_is_legal s at before name mode hows.Direct act e
    (record {
      kind = λ file fd. refl;
      once = ap (list_any is_opened) empty;
      not_refused = may empty;
      no_rights = λ file of. tt;
    })
    new.1 adds)
    (map_or_from (attach_by s p) (fd_of p) (open_file s p) (Some act) own.own)

pub direct_opens_are_legal : (name : List ℕ) (mode : Mode) → NextIsLegal (Enter name mode hows.Direct)
direct_opens_are_legal name mode = next_from_own (Enter name mode hows.Direct) (direct_open_is_legal name mode)
