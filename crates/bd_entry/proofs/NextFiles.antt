-- The next entries of removals and truncations are legal: a block that is released, a growth, a new size, and a removal.
use Rattle.std.proofs.Common.{◌≡◌, ◌⊎◌, inl, inr, ℕ, ◌-◌, ◌<◌, ◌≤◌, Bool, true, false, ◌&&◌, cond, List, [], ◌∷◌, ◌++◌, length, Option, None, Some, refl, sym, ap, ◌∙◌, subst, arith, ⊎_elim}
use Rattle.std.specs.Prelude.{nat_eq, nat_le, nat_lt, slice_get, is_some}
use Rattle.std.specs.Option.{option_and_then, option_map, option_map_or, option_or}
use Rattle.std.specs.List.{list_any}
use Rattle.std.proofs.lemmas.Bool.{and_cases, and_parts, both_ways, cases_lt, false≢true, lt-ltb, ltb-true, true_from_ne_false}
use Rattle.std.proofs.lemmas.Option.{none-some, same_Some, slice_get_within}
use Rattle.bd_base.specs.declared.limits.TheConstants.{EXTENTS, FILE_SIZE}
use Rattle.bd_base.specs.declared.key.Key.{Key}
use Rattle.bd_base.specs.declared.reason.Reason.{Reason}
use Rattle.bd_base.specs.declared.reason.Reason.TheVariants as reasons
use Rattle.bd_base.specs.declared.script.Call.TheVariants.{Truncate, Unlink}
use Rattle.bd_base.specs.declared.volume.Inode.{Inode}
use Rattle.bd_base.specs.declared.journal.At.{At}
use Rattle.bd_base.specs.Allocation.{allocated_block, last_block}
use Rattle.bd_base.specs.Extents.{extents_of}
use Rattle.bd_base.specs.Files.{blocks_for}
use Rattle.bd_base.specs.Inodes.{block_refusal, blocks_of_slot, growth_block, growth_refusal, id_of, is_free}
use Rattle.bd_entry.specs.declared.act.Act.{Act}
use Rattle.bd_entry.specs.declared.act.Act.TheVariants as acts
use Rattle.bd_entry.specs.declared.entry.Entry.{Entry}
use Rattle.bd_entry.specs.declared.entry.Entry.TheVariants as entries
use Rattle.bd_entry.specs.Actions.{entry_of_act, is_none_of, is_to_shrink, keys_on, released_entry, remove_file, truncate_to}
use Rattle.bd_entry.specs.Calls.{Place, is_made_by, named_fd}
use Rattle.bd_entry.specs.NextEntries.{IsLegalAt, NextIsLegal, running}
use Rattle.bd_entry.specs.Refusals.{file_of, first_refusal, goal_of, growth_reason, growth_reason_of, is_read_only, next_size, reason_if, truncate_refusal, unlink_denial_of}
use Rattle.bd_entry.specs.Rules.{EntryRule, FitsStore, IsOpen, NotRefused, RightBlock, RightFile, RightWay, Rights, WithinLimit}
use Rattle.bd_entry.specs.RulesOfContents.{IsOfGrowth, MayBegin, MayGrowToGoal, NeedsNoLastBlock}
use Rattle.bd_entry.specs.RulesOfRights.{HasNoRights, NamedIsOpen}
use Rattle.bd_entry.specs.Store.{Descriptor, Holder, Store, Valid, blocks_in, descriptor_at, file_in, first_open, has_open, has_rights, is_attached_of, is_open_of, size_in}
use Rattle.bd_entry.proofs.Holders.{is_some-first_holder}
use Rattle.bd_entry.proofs.NextActs.{OwnIsLegal, any-stricter, is_there, map_from, map_or_from, next_from_own, none_outstanding, open_descriptor, or_none, still_allowed, then_from}
use Rattle.bd_entry.proofs.NextCloses.{keys_on-none}
use Rattle.bd_entry.proofs.Slots.{some_of}

-- ---- choices

-- a choice gave one or the other
pub cond_from : {X : Type 0} (b : Bool) (x y z : X) → cond b x y ≡ z → ((b ≡ true) × (x ≡ z)) ⊎ ((b ≡ false) × (y ≡ z))
cond_from true x y z is = inl (refl, is)
cond_from false x y z is = inr (refl, is)

map_none : {X Y : Type 0} (f : X → Y) (o : Option X) → option_map f o ≡ None → o ≡ None
map_none f None none = refl
map_none f (Some x) none = absurd (none-some (f x) (sym none))

-- no reason, no ground for it
pub reason_if-none : (holds : Bool) (reason : Reason) → reason_if holds reason ≡ None → holds ≡ false
reason_if-none true reason none = absurd (none-some reason (sym none))
reason_if-none false reason none = refl

-- ---- blocks that are released

-- a file with a block is there
has_block : (slot : Option Inode) (index block : ℕ) → slice_get (blocks_of_slot slot) index ≡ Some block → (f : Inode) × (slot ≡ Some f)
has_block None index block is = absurd (none-some block is)
has_block (Some f) index block is = (f, refl)

-- the call releases the last block of its file
record Releases (s : Store) (p : Place) (file : ℕ) : Type 0 where
  of : file_of s p ≡ Some file
  kind : (index block : ℕ) → is_made_by p.call (entries.Released p.at file index block) ≡ true
  opened : NamedIsOpen s p.at.process (named_fd p.call)
  no_rights : HasNoRights s file
  unneeded : (f : Inode) → file_in s file ≡ Some f → NeedsNoLastBlock p.call f
  may_begin : MayBegin s p

released-keeps : (s : Store) (p : Place) (file block : ℕ) → Releases s p file →
    slice_get (blocks_in s file) (length (blocks_in s file) - 1) ≡ Some block → (rule : EntryRule) →
    FitsStore s p (entries.Released p.at file (length (blocks_in s file) - 1) block) rule
released-keeps s p file block releases is IsOpen = releases.opened
released-keeps s p file block releases is RightFile = releases.of
released-keeps s p file block releases is Rights = releases.no_rights
released-keeps s p file block releases is RightBlock =
    let last = length (blocks_in s file) - 1 in
    let there = has_block (file_in s file) last block is in
    let same : blocks_in s file ≡ there.0.blocks = ap blocks_of_slot there.1 in
    let count : length (blocks_in s file) ≡ length there.0.blocks = ap length same in
    let within : last < length (blocks_in s file) = slice_get_within (blocks_in s file) last block is in (
      there.0,
      there.1,
      record {
        index_is = omega arith;
        block_is = subst (λ (blocks : List ℕ). slice_get blocks (length blocks - 1) ≡ Some block) same is;
      },
    )
released-keeps s p file block releases is WithinLimit =
    let there = has_block (file_in s file) (length (blocks_in s file) - 1) block is in
    (there.0, there.1, releases.unneeded there.0 there.1)
released-keeps s p file block releases is NotRefused = releases.may_begin
released-keeps s p file block releases is rule = tt

release_is_legal : (s : Store) (p : Place) (file : ℕ) (e : Entry) → Releases s p file → released_entry s p file ≡ Some e → IsLegalAt s p e
release_is_legal s p file e releases adds =
    let last = length (blocks_in s file) - 1 in
    let found = map_from (entries.Released p.at file last) (slice_get (blocks_in s file) last) e adds in
    subst (IsLegalAt s p) found.2
    (record {
      of_call = record { kind = releases.kind last found.0; fields = tt };
      of_place = refl;
      once = tt;
      keeps = released-keeps s p file found.0 releases found.1;
    })

-- ---- removals

attached-open : (file : ℕ) (slot : Option Descriptor) → is_attached_of file slot ≡ true → is_open_of file slot ≡ true
attached-open file None is = absurd (false≢true is)
attached-open file (Some d) is = (and_parts (nat_eq d.file file) (has_rights d) is).0

-- a file that nobody has open has no right
unopened-no_rights : (s : Store) (file : ℕ) → has_open s file ≡ false → HasNoRights s file
unopened-no_rights s file none =
    any-stricter (list_any (is_open_of file)) (list_any (is_attached_of file)) s.opens
    (λ row some.
    true_from_ne_false (list_any (is_open_of file) row)
    (λ closed. both_ways (list_any (is_attached_of file) row) (any-stricter (is_open_of file) (is_attached_of file) row (attached-open file) closed) some))
    (sym (is_some-first_holder (is_open_of file) 0 s.opens) ∙ none)

-- a removal that is not refused is of a file that nobody has open
not_open : (s : Store) (process file : ℕ) (name : List ℕ) → first_refusal s process (Unlink name) ≡ None → id_of name s.files ≡ Some file →
    has_open s file ≡ false
not_open s process file name none is =
    let by : Holder → Reason = λ h. reasons.OpenBy h.process h.fd in
    let why : ℕ → Option Reason = λ file. option_or (unlink_denial_of s process file) (option_map by (first_open s file)) in
    ap is_some
    (map_none by (first_open s file)
    (or_none (unlink_denial_of s process file) (option_map by (first_open s file))
    (sym (ap (λ (o : Option ℕ). option_map_or why o (Some reasons.NoFile)) is) ∙ none)).1)

remove_cases : (s : Store) (file : ℕ) (act : Act) → remove_file s file ≡ act →
    ((blocks_in s file ≡ []) × (acts.Unlinked ≡ act)) ⊎ (acts.Release file ≡ act)
remove_cases s file act is = by (blocks_in s file) is
  where
    by : (blocks : List ℕ) → cond (is_none_of blocks) acts.Unlinked (acts.Release file) ≡ act →
        ((blocks ≡ []) × (acts.Unlinked ≡ act)) ⊎ (acts.Release file ≡ act)
    by [] is = inl (refl, is)
    by (block ∷ blocks) is = inr is

unlinked-keeps : (s : Store) (p : Place) (file : ℕ) → file_of s p ≡ Some file → blocks_in s file ≡ [] → has_open s file ≡ false → MayBegin s p →
    (rule : EntryRule) → FitsStore s p (entries.Unlinked p.at file) rule
unlinked-keeps s p file of empty closed may RightFile = of
unlinked-keeps s p file of empty closed may Rights = unopened-no_rights s file closed
unlinked-keeps s p file of empty closed may WithinLimit = (empty, closed)
unlinked-keeps s p file of empty closed may NotRefused = may
unlinked-keeps s p file of empty closed may rule = tt

removal_is_legal : (name : List ℕ) → OwnIsLegal (Unlink name)
removal_is_legal name s holders at before outstanding act e ready own adds =
    let p = (running (Unlink name) at before outstanding).place in
    let none : outstanding ≡ [] = none_outstanding outstanding (λ number some. false≢true (ready.outstanding number some)) in
    let may : MayBegin s p = own.may_begin none in
    let found = map_from (remove_file s) (id_of name s.files) act own.own in
    let file : ℕ = found.0 in
    let closed : has_open s file ≡ false =
    not_open s at.process file name (still_allowed before (first_refusal s at.process (Unlink name)) may (λ some. ready.allowed some refl)) found.1 in
    ⊎_elim
    (λ unlinks.
    let entry : Entry = entries.Unlinked at file in
    subst (IsLegalAt s p)
    (same_Some entry e (sym (ap (option_map (entries.Unlinked at)) found.1) ∙ ap (entry_of_act s p) unlinks.1 ∙ adds))
    (record {
      of_call = record { kind = refl; fields = tt };
      of_place = refl;
      once = tt;
      keeps = unlinked-keeps s p file found.1 unlinks.0 closed may;
    }))
    (λ release.
    release_is_legal s p file e
    (record {
      of = found.1;
      kind = λ index block. refl;
      opened = tt;
      no_rights = unopened-no_rights s file closed;
      unneeded = λ f there. tt;
      may_begin = may;
    })
    (ap (entry_of_act s p) release ∙ adds))
    (remove_cases s file act found.2)

pub removals_are_legal : (name : List ℕ) → NextIsLegal (Unlink name)
removals_are_legal name = next_from_own (Unlink name) (removal_is_legal name)

-- ---- growth

-- a size is on its way to a goal above it
next_size-below : (size goal to : ℕ) → next_size size goal ≡ Some to → nat_lt size goal ≡ true
next_size-below size goal to is =
    ⊎_elim (λ below. below.0) (λ there. absurd (none-some to there.1))
    (cond_from (nat_lt size goal) _ None (Some to) is)

-- a growth is refused for want of room alone, unless its goal is above the size of any file
growth-reasons : (s : Store) (f : Inode) (goal : ℕ) (reason : Reason) → growth_refusal s.total s.files f goal ≡ Some reason →
    nat_lt FILE_SIZE goal ≡ false → IsOfGrowth reason
growth-reasons s f goal reason is small =
    let after = allocated_block (is_free s.total s.files) s.total (last_block f.blocks) in
    ⊎_elim
    (λ big. absurd (both_ways (nat_lt FILE_SIZE goal) small big.0))
    (λ other.
    ⊎_elim
    (λ whole. by_block after whole.1)
    (λ within. absurd (none-some reason within.1))
    (cond_from (nat_eq _ 0) (block_refusal f.blocks after) None (Some reason) other.1))
    (cond_from (nat_lt FILE_SIZE goal) (Some reasons.TooBig) _ (Some reason) is)
  where
    by_block : (o : Option ℕ) → block_refusal f.blocks o ≡ Some reason → IsOfGrowth reason
    by_block None why = subst IsOfGrowth (same_Some reasons.NoSpace reason why) tt
    by_block (Some block) why =
        ⊎_elim
        (λ few. absurd (none-some reason few.1))
        (λ many. subst IsOfGrowth (same_Some reasons.Extents reason many.1) tt)
        (cond_from (nat_le (length (extents_of (f.blocks ++ block ∷ []))) EXTENTS) None (Some reasons.Extents) (Some reason) why)

growth_reason-of : (s : Store) (p : Place) (goal : ℕ) (reason : Reason) → growth_reason_of s p goal ≡ Some reason → nat_lt FILE_SIZE goal ≡ false →
    IsOfGrowth reason
growth_reason-of s p goal reason is small =
    let of = then_from (λ file. growth_reason s file goal) (file_of s p) reason is in
    let why : Inode → Option Reason = λ f. cond (nat_lt f.size goal) (growth_refusal s.total s.files f goal) None in
    let there = then_from why (file_in s of.0) reason of.2 in
    ⊎_elim
    (λ below. growth-reasons s there.0 goal reason below.1 small)
    (λ above. absurd (none-some reason above.1))
    (cond_from (nat_lt there.0.size goal) (growth_refusal s.total s.files there.0 goal) None (Some reason) there.2)

-- a goal for which no growth is refused is at most the size of any file
goal-within : (s : Store) (file goal to : ℕ) (f : Inode) → growth_reason s file goal ≡ None → file_in s file ≡ Some f →
    next_size (size_in s file) goal ≡ Some to → goal ≤ FILE_SIZE
goal-within s file goal to f none there next =
    let why : Inode → Option Reason = λ f. cond (nat_lt f.size goal) (growth_refusal s.total s.files f goal) None in
    let size : size_in s file ≡ f.size = ap (λ (slot : Option Inode). option_map_or (λ (f : Inode). f.size) slot 0) there in
    let below : nat_lt f.size goal ≡ true = ap (λ (n : ℕ). nat_lt n goal) (sym size) ∙ next_size-below (size_in s file) goal to next in
    let allowed : growth_refusal s.total s.files f goal ≡ None =
    sym (ap (λ (b : Bool). cond b (growth_refusal s.total s.files f goal) None) below) ∙ sym (ap (option_and_then why) there) ∙ none in
    ⊎_elim
    (λ big. absurd (none-some reasons.TooBig (sym big.1)))
    (λ small.
    ⊎_elim
    (λ above. absurd (both_ways (nat_lt FILE_SIZE goal) small.0 (lt-ltb FILE_SIZE goal above)))
    (λ within. within)
    (cases_lt FILE_SIZE goal))
    (cond_from (nat_lt FILE_SIZE goal) (Some reasons.TooBig) _ None allowed)

-- the call lets its file grow towards a goal
pub record Extends (s : Store) (p : Place) (file goal to : ℕ) : Type 0 where
  pub of : file_of s p ≡ Some file
  pub kind : (block : Option ℕ) → is_made_by p.call (entries.Extended p.at file to block) ≡ true
  pub opened : NamedIsOpen s p.at.process (named_fd p.call)
  pub goal_is : goal_of s p ≡ Some goal
  pub room : growth_reason_of s p goal ≡ None
  pub next : next_size (size_in s file) goal ≡ Some to
  pub may_begin : MayBegin s p

extended-keeps : (s : Store) (p : Place) (file goal to : ℕ) (f : Inode) → Extends s p file goal to → file_in s file ≡ Some f → (rule : EntryRule) →
    FitsStore s p (entries.Extended p.at file to (growth_block s.total s.files f)) rule
extended-keeps s p file goal to f extends there IsOpen = extends.opened
extended-keeps s p file goal to f extends there RightFile = extends.of
extended-keeps s p file goal to f extends there RightBlock = (f, there, refl)
extended-keeps s p file goal to f extends there WithinLimit =
    ap (option_and_then (next_size (size_in s file))) extends.goal_is ∙ extends.next
extended-keeps s p file goal to f extends there NotRefused =
    let room : growth_reason s file goal ≡ None = sym (ap (option_and_then (λ file. growth_reason s file goal)) extends.of) ∙ extends.room in (
      extends.may_begin,
      subst (MayGrowToGoal s file) (sym extends.goal_is) (record { within = goal-within s file goal to f room there extends.next; room = room }),
    )
extended-keeps s p file goal to f extends there rule = tt

pub extension_is_legal : (s : Store) (p : Place) (file goal to : ℕ) (e : Entry) → Extends s p file goal to →
    entry_of_act s p (acts.Extend file to) ≡ Some e → IsLegalAt s p e
extension_is_legal s p file goal to e extends adds =
    let found = map_from (λ (f : Inode). entries.Extended p.at file to (growth_block s.total s.files f)) (file_in s file) e adds in
    subst (IsLegalAt s p) found.2
    (record {
      of_call = record { kind = extends.kind (growth_block s.total s.files found.0); fields = tt };
      of_place = refl;
      once = tt;
      keeps = extended-keeps s p file goal to found.0 extends found.1;
    })

-- ---- truncations

-- no blocks are left that the size does not need
enough_blocks : (size now blocks : ℕ) → blocks ≡ blocks_for now → nat_lt now size ≡ false → (nat_lt size now && nat_lt (blocks_for size) blocks) ≡ false →
    blocks ≡ blocks_for size
enough_blocks size now blocks enough reached stays =
    let most : size ≤ now =
    ⊎_elim (λ above. absurd (both_ways (nat_lt now size) reached (lt-ltb now size above))) (λ within. within) (cases_lt now size) in
    ⊎_elim
    (λ not_less.
    let same : size ≡ now =
    ⊎_elim (λ less. absurd (both_ways (nat_lt size now) not_less (lt-ltb size now less))) (λ least. omega arith) (cases_lt size now) in
    enough ∙ sym (ap blocks_for same))
    (λ not_more.
    ⊎_elim
    (λ more. absurd (both_ways (nat_lt (blocks_for size) blocks) not_more (lt-ltb (blocks_for size) blocks more)))
    (λ few. omega arith)
    (cases_lt (blocks_for size) blocks))
    (and_cases (nat_lt size now) (nat_lt (blocks_for size) blocks) stays)

pub next_size-none : (size goal : ℕ) → next_size size goal ≡ None → nat_lt size goal ≡ false
next_size-none size goal none =
    ⊎_elim (λ below. absurd (none-some _ (sym below.1))) (λ there. there.0) (cond_from (nat_lt size goal) (Some _) None None none)

sized_blocks : (s : Store) (p : Place) (fd size : ℕ) (d : Descriptor) → Valid s → descriptor_at s p.at.process fd ≡ Some d →
    is_to_shrink s d.file size ≡ false → next_size (size_in s d.file) size ≡ None → length (blocks_in s d.file) ≡ blocks_for size
sized_blocks s p fd size d valid is stays reached =
    let there = some_of (file_in s d.file) (valid.descriptors p.at.process fd d is).of_file in
    let f : Inode = there.0 in
    let enough : length f.blocks ≡ blocks_for f.size = (valid.volume.files.valid.each d.file f there.1).enough_blocks in
    let count : length (blocks_in s d.file) ≡ length f.blocks = ap (λ (slot : Option Inode). length (blocks_of_slot slot)) there.1 in
    let now : size_in s d.file ≡ f.size = ap (λ (slot : Option Inode). option_map_or (λ (f : Inode). f.size) slot 0) there.1 in
    enough_blocks size (size_in s d.file) (length (blocks_in s d.file)) (count ∙ enough ∙ sym (ap blocks_for now))
    (next_size-none (size_in s d.file) size reached) stays

sized-keeps : (s : Store) (at : At) (before : List Entry) (fd size : ℕ) (d : Descriptor) →
    let p : Place = record { call = Truncate fd size; at = at; before = before } in
    descriptor_at s at.process fd ≡ Some d → length (blocks_in s d.file) ≡ blocks_for size →
    (nat_lt size (size_in s d.file) ≡ true → HasNoRights s d.file) → MayBegin s p → (rule : EntryRule) →
    FitsStore s p (entries.Sized at fd size) rule
sized-keeps s at before fd size d is enough lowers may IsOpen = is_there (descriptor_at s at.process fd) d is
sized-keeps s at before fd size d is enough lowers may Rights =
    (d, is, λ less. lowers (lt-ltb size (size_in s d.file) less))
sized-keeps s at before fd size d is enough lowers may WithinLimit = (d, is, (refl, enough))
sized-keeps s at before fd size d is enough lowers may NotRefused = may
sized-keeps s at before fd size d is enough lowers may rule = tt

-- a truncation whose file cannot grow further is refused for want of room
truncation_refused-keeps : (s : Store) (at : At) (before : List Entry) (fd size : ℕ) (reason : Reason) →
    let p : Place = record { call = Truncate fd size; at = at; before = before } in
    first_refusal s at.process (Truncate fd size) ≡ None → growth_reason_of s p size ≡ Some reason → IsOfGrowth reason → (rule : EntryRule) →
    FitsStore s p (entries.Refused at None reason) rule
truncation_refused-keeps s at before fd size reason allowed why growth RightWay = refl
truncation_refused-keeps s at before fd size reason allowed why growth NotRefused =
    let p : Place = record { call = Truncate fd size; at = at; before = before } in
    record { first = ap (λ (o : Option Reason). option_or o (growth_reason_of s p size)) allowed ∙ why; of_growth = λ some. growth }
truncation_refused-keeps s at before fd size reason allowed why growth rule = tt

-- the facts of a truncation that goes on by this descriptor
record Truncates (s : Store) (at : At) (before : List Entry) (fd size : ℕ) (d : Descriptor) : Type 0 where
  valid : Valid s
  is_open : descriptor_at s at.process fd ≡ Some d
  allowed : first_refusal s at.process (Truncate fd size) ≡ None
  small : nat_lt FILE_SIZE size ≡ false
  lowers : nat_lt size (size_in s d.file) ≡ true → HasNoRights s d.file
  may_begin : MayBegin s (record { call = Truncate fd size; at = at; before = before })

module _ (s : Store) (at : At) (before : List Entry) (fd size : ℕ) (d : Descriptor) (e : Entry) (facts : Truncates s at before fd size d) where
  -- where it stands
  abbrev here : Place
  here = record { call = Truncate fd size; at = at; before = before }

  of_file : file_of s here ≡ Some d.file
  of_file = ap (option_map (λ (d : Descriptor). d.file)) facts.is_open

  -- it releases a block that its size does not need
  truncation-releases : is_to_shrink s d.file size ≡ true → released_entry s here d.file ≡ Some e → IsLegalAt s here e
  truncation-releases shrinks adds =
      let parts = and_parts (nat_lt size (size_in s d.file)) (nat_lt (blocks_for size) (length (blocks_in s d.file))) shrinks in
      release_is_legal s here d.file e
      (record {
        of = of_file;
        kind = λ index block. refl;
        opened = is_there (descriptor_at s at.process fd) d facts.is_open;
        no_rights = facts.lowers parts.0;
        unneeded = λ f there.
            let more : blocks_for size < length (blocks_in s d.file) = ltb-true (blocks_for size) (length (blocks_in s d.file)) parts.1 in
            subst (λ (n : ℕ). blocks_for size < n) (ap (λ (slot : Option Inode). length (blocks_of_slot slot)) there) more;
        may_begin = facts.may_begin;
      })
      adds

  -- it is refused, since its file cannot grow further
  truncation-refused : (reason : Reason) → growth_reason_of s here size ≡ Some reason → entries.Refused at None reason ≡ e → IsLegalAt s here e
  truncation-refused reason why same =
      subst (IsLegalAt s here) same
      (record {
        of_place = refl;
        of_call = record { kind = refl; fields = tt };
        once = tt;
        keeps = truncation_refused-keeps s at before fd size reason facts.allowed why (growth_reason-of s here size reason why facts.small);
      })

  -- it grows its file
  truncation-extends : (to : ℕ) → next_size (size_in s d.file) size ≡ Some to → growth_reason_of s here size ≡ None →
      entry_of_act s here (acts.Extend d.file to) ≡ Some e → IsLegalAt s here e
  truncation-extends to next room adds =
      extension_is_legal s here d.file size to e
      (record {
        of = of_file;
        kind = λ block. refl;
        opened = is_there (descriptor_at s at.process fd) d facts.is_open;
        goal_is = refl;
        room = room;
        next = next;
        may_begin = facts.may_begin;
      })
      adds

  -- its file has its size
  truncation-ends : is_to_shrink s d.file size ≡ false → next_size (size_in s d.file) size ≡ None → entries.Sized at fd size ≡ e → IsLegalAt s here e
  truncation-ends stays reached same =
      subst (IsLegalAt s here) same
      (record {
        of_place = refl;
        of_call = record { kind = refl; fields = refl };
        once = tt;
        keeps =
            sized-keeps s at before fd size d facts.is_open (sized_blocks s here fd size d facts.valid facts.is_open stays reached) facts.lowers
            facts.may_begin;
      })

  truncation-acts : (act : Act) → truncate_to s here size d.file ≡ act → entry_of_act s here act ≡ Some e → IsLegalAt s here e
  truncation-acts act is adds =
      let grow : ℕ → Act = λ to. option_map_or (acts.Refuse None) (growth_reason_of s here size) (acts.Extend d.file to) in
      ⊎_elim {C = IsLegalAt s here e}
      (λ shrinks. truncation-releases shrinks.0 (ap (entry_of_act s here) shrinks.1 ∙ adds))
      (λ stays.
      ⊎_elim {C = IsLegalAt s here e}
      (λ grows.
      ⊎_elim {C = IsLegalAt s here e}
      (λ refused.
      truncation-refused refused.0 refused.1 (same_Some (entries.Refused at None refused.0) e (ap (entry_of_act s here) refused.2 ∙ adds)))
      (λ room. truncation-extends grows.0 grows.1 room.0 (ap (entry_of_act s here) room.1 ∙ adds))
      (map_or_from (acts.Refuse None) (growth_reason_of s here size) (acts.Extend d.file grows.0) act grows.2))
      (λ reached. truncation-ends stays.0 reached.0 (same_Some (entries.Sized at fd size) e (ap (entry_of_act s here) reached.1 ∙ adds)))
      (map_or_from grow (next_size (size_in s d.file) size) (acts.Sized size) act stays.1))
      (cond_from (is_to_shrink s d.file size) (acts.Release d.file) _ act is)

-- the size of a truncation that is not refused is at most that of any file
truncation-small : (s : Store) (process fd size : ℕ) → first_refusal s process (Truncate fd size) ≡ None → nat_lt FILE_SIZE size ≡ false
truncation-small s process fd size allowed =
    let named = open_descriptor s process fd (truncate_refusal size) allowed in
    reason_if-none (nat_lt FILE_SIZE size) reasons.TooBig
    (or_none (reason_if (is_read_only named.0.mode) reasons.ReadOnly) (reason_if (nat_lt FILE_SIZE size) reasons.TooBig) named.2).1

truncation_is_legal : (fd size : ℕ) → OwnIsLegal (Truncate fd size)
truncation_is_legal fd size s holders at before outstanding act e ready own adds =
    let call = Truncate fd size in
    let p : Place = record { call = call; at = at; before = before } in
    let none : outstanding ≡ [] = none_outstanding outstanding (λ number some. false≢true (ready.outstanding number some)) in
    let allowed : first_refusal s at.process call ≡ None =
    still_allowed before (first_refusal s at.process call) (own.may_begin none) (λ some. ready.allowed some refl) in
    let found = map_from (truncate_to s p size) (file_of s p) act own.own in
    let by = map_from (λ (d : Descriptor). d.file) (descriptor_at s at.process fd) found.0 found.1 in
    let d : Descriptor = by.0 in
    let keys : ℕ → List Key = λ file. cond (nat_lt size (size_in s file)) (keys_on s file) [] in
    let none_left : keys d.file ≡ [] =
    sym (ap (λ (slot : Option Descriptor). option_map_or keys (option_map (λ (d : Descriptor). d.file) slot) []) by.1) ∙ own.no_keys in
    truncation-acts s at before fd size d e
    (record {
      valid = ready.valid;
      is_open = by.1;
      allowed = allowed;
      small = truncation-small s at.process fd size allowed;
      lowers = λ less. keys_on-none s d.file (sym (ap (λ (b : Bool). cond b (keys_on s d.file) []) less) ∙ none_left);
      may_begin = own.may_begin none;
    })
    act (ap (truncate_to s p size) by.2 ∙ found.2) adds

pub truncations_are_legal : (fd size : ℕ) → NextIsLegal (Truncate fd size)
truncations_are_legal fd size = next_from_own (Truncate fd size) (truncation_is_legal fd size)
