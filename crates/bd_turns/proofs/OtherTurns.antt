-- No turn in the name of one call leaves another call more turns.
use Rattle.std.proofs.Common.{◌≡◌, ◌≢◌, ℕ, ◌+◌, ◌*◌, ◌≤◌, Bool, true, false, List, [], ◌∷◌, ◌++◌, length, Option, None, Some, refl, sym, ap, ◌∙◌, subst, arith, ⊎_elim}
use Rattle.std.specs.Prelude.{count_by, nat_eq, slice_index_or}
use Rattle.std.specs.Option.{option_and_then, option_map, option_map_or}
use Rattle.std.proofs.lemmas.Bool.{and_left, both_ways, false≢true, ne_eqb}
use Rattle.std.proofs.lemmas.Option.{same_Some}
use Rattle.bd_base.specs.declared.journal.At.{At}
use Rattle.bd_base.specs.declared.key.Key.{Key}
use Rattle.bd_base.specs.declared.script.Call.{Call}
use Rattle.bd_base.specs.declared.script.Call.TheVariants.{Enter, Create, Read, Write, Truncate, Unlink, Size, Map, Close, RawRead, RawWrite}
use Rattle.bd_base.specs.declared.script.How.TheVariants as hows
use Rattle.bd_base.specs.declared.volume.Inode.{Inode}
use Rattle.bd_base.specs.declared.volume.Volume.{Volume}
use Rattle.bd_base.specs.Inodes.{blocks_of_slot, inode_at}
use Rattle.bd_entry.specs.declared.entry.Entry.{Entry}
use Rattle.bd_entry.specs.declared.entry.Entry.TheVariants as entries
use Rattle.bd_entry.specs.Actions.{has_begun, is_untouched, piece_numbers}
use Rattle.bd_entry.specs.Calls.{Place, at_of, fd_of, fd_of_call, is_ended_by, opened_fd, pieces_of_call}
use Rattle.bd_entry.specs.Effects as effects
use Rattle.bd_entry.specs.Effects.{after_change, after_telling, tells_size}
use Rattle.bd_entry.specs.Refusals.{descriptor_of, file_of, file_of_call}
use Rattle.bd_entry.specs.Rules.{place_in}
use Rattle.bd_entry.specs.Store.{Descriptor, Store, Valid, blocks_in, descriptor_at, file_in, in_slot, size_in, work_of}
use Rattle.bd_entry.proofs.DescriptorSteps.{access_opens, after_call-cases, after_telling-cases, change-cases, sized_opens, slot-set_cases}
use Rattle.bd_entry.proofs.EffectsOnFiles.{effect_of-files}
use Rattle.bd_entry.proofs.NextActs.{map_from, then_from}
use Rattle.bd_entry.proofs.Slots.{some_of}
use Rattle.bd_tables.specs.declared.state.Right.{Right}
use Rattle.bd_tables.specs.Effects as changes
use Rattle.bd_turns.specs.Processors.{running_of}
use Rattle.bd_turns.specs.Reached.{IsReached}
use Rattle.bd_turns.specs.Rest.{attach_turns, blocks_of, command_turns, end_of_call, growth_turns, is_by, is_on_file, kernel_turns, part_turns, piece_turns, revocation_turns, size_of, size_turns, turns_for, turns_left}
use Rattle.bd_turns.specs.Sound.{is_open}
use Rattle.bd_turns.specs.State.{Progress, State, outstanding, progress_of, running}
use Rattle.bd_turns.specs.Turns.{holds_throughout, may_write}
use Rattle.bd_turns.proofs.ActionsOfCalls.{empty-unbegun, holding, no_commands}
use Rattle.bd_turns.proofs.EffectiveTurns.{Turned, store_with}
use Rattle.bd_turns.proofs.FilesOfCalls.{found_named, store_after}
use Rattle.bd_turns.proofs.OpenDescriptors.{attaches}
use Rattle.bd_turns.proofs.RevocationTurns.{NoneRises, revocation_rises_not}
use Rattle.bd_turns.proofs.RightsOfTurns.{KeepsTest}
use Rattle.bd_turns.proofs.RightsOnFiles.{same_changed}
use Rattle.bd_turns.proofs.TruncationsAfterTurns.{attached_file, other_size}
use Rattle.bd_turns.proofs.Cases.{running_process}

-- ---- files that are held

-- the file of a call is there
pub file_there : (s : Store) (x : Place) (file : ℕ) → Valid s → file_of s x ≡ Some file → (f : Inode) × (file_in s file ≡ Some f)
file_there s x file valid of = by x.call of
  where
    by_descriptor : option_map (λ (d : Descriptor). d.file) (descriptor_of s x) ≡ Some file → (f : Inode) × (file_in s file ≡ Some f)
    by_descriptor is =
        let d = map_from (λ (d : Descriptor). d.file) (descriptor_of s x) file is in
        let fd = then_from (descriptor_at s x.at.process) (fd_of x) d.0 d.1 in
        let f = some_of (file_in s d.0.file) (valid.descriptors x.at.process fd.0 d.0 fd.2).of_file in
        (f.0, ap (file_in s) (sym d.2) ∙ f.1)

    by : (call : Call) → file_of_call s call (descriptor_of s x) ≡ Some file → (f : Inode) × (file_in s file ≡ Some f)
    by (Enter name mode how) is = let found = found_named name s.files file is in (found.0, found.1)
    by (Unlink name) is = let found = found_named name s.files file is in (found.0, found.1)
    by call is = by_descriptor is

-- ---- descriptors of other processes

same_opens : (s t : Store) (q fd : ℕ) → t.opens ≡ s.opens → descriptor_at t q fd ≡ descriptor_at s q fd
same_opens s t q fd same = ap (λ (opens : List (List (Option Descriptor))). in_slot (slice_index_or opens q []) fd) same

-- an entry of another process leaves a descriptor its rights, unless it detaches one of them
changed_parts : (s : Store) (e : Entry) (q fd : ℕ) → q ≢ (at_of e).process →
    ((at : At) (part : ℕ) → e ≡ entries.Detached at q fd part → ⊥) →
    part_turns (descriptor_at (after_change s e) q fd) ≤ part_turns (descriptor_at s q fd)
changed_parts s e q fd differ stays = by e differ stays
  where
    same_less : (t : Store) → descriptor_at t q fd ≡ descriptor_at s q fd → part_turns (descriptor_at t q fd) ≤ part_turns (descriptor_at s q fd)
    same_less t same = let is : part_turns (descriptor_at t q fd) ≡ part_turns (descriptor_at s q fd) = ap part_turns same in omega arith

    cleared_same : (part : ℕ) (slot : Option Descriptor) → part_turns (option_map (effects.clear part) slot) ≡ part_turns slot
    cleared_same part None = refl
    cleared_same part (Some d) = refl

    by : (x : Entry) → q ≢ (at_of x).process → ((at : At) (part : ℕ) → x ≡ entries.Detached at q fd part → ⊥) →
        part_turns (descriptor_at (after_change s x) q fd) ≤ part_turns (descriptor_at s q fd)
    by (entries.Opened at file f mode how) differ stays =
        let x = entries.Opened at file f mode how in
        same_less (after_change s x)
        (⊎_elim (λ same. same) (λ new. absurd (differ new.0)) (slot-set_cases s at.process f (effects.new_descriptor x) q fd))
    by (entries.Attached at f part) differ stays =
        same_less (after_change s (entries.Attached at f part))
        (⊎_elim (λ same. same) (λ new. absurd (differ new.0)) (change-cases s at.process f (effects.attach part) q fd))
    by (entries.Closed at f) differ stays =
        same_less (after_change s (entries.Closed at f))
        (⊎_elim (λ same. same) (λ new. absurd (differ new.0)) (slot-set_cases s at.process f None q fd))
    by (entries.Cleared at owner f part) differ stays =
        ⊎_elim (same_less (after_change s (entries.Cleared at owner f part)))
        (λ new.
        let is : part_turns (descriptor_at (after_change s (entries.Cleared at owner f part)) q fd) ≡ part_turns (descriptor_at s q fd) =
        ap part_turns new.2 ∙ cleared_same part (descriptor_at s q fd) in
        omega arith)
        (change-cases s owner f (effects.clear part) q fd)
    by (entries.Detached at owner f part) differ stays =
        ⊎_elim (same_less (after_change s (entries.Detached at owner f part)))
        (λ new.
        absurd
        (stays at part
        (ap (λ (k : ℕ). entries.Detached at k f part) (sym new.0) ∙ ap (λ (k : ℕ). entries.Detached at q k part) (sym new.1))))
        (change-cases s owner f (effects.detach part) q fd)
    by (entries.Access at piece f file index block range wrote way bytes) differ stays =
        same_less (after_change s (entries.Access at piece f file index block range wrote way bytes))
        (same_opens s (after_change s (entries.Access at piece f file index block range wrote way bytes)) q fd (access_opens s wrote block range.lo bytes))
    by (entries.Sized at f size) differ stays =
        same_less (after_change s (entries.Sized at f size))
        (same_opens s (after_change s (entries.Sized at f size)) q fd (sized_opens s size (descriptor_at s at.process f)))
    by x differ stays = same_less (after_change s x) (same_opens s (after_change s x) q fd refl)

pub other_parts : (s : Store) (call : Call) (e : Entry) (q fd : ℕ) → q ≢ (at_of e).process → ((at : At) (part : ℕ) → e ≡ entries.Detached at q fd part → ⊥) →
    part_turns (descriptor_at (store_after s call e) q fd) ≤ part_turns (descriptor_at s q fd)
other_parts s call e q fd differ stays =
    let process : ℕ = (at_of e).process in
    let entries = work_of s process ++ e ∷ [] in
    let of = fd_of_call call entries in
    let changed : Store = after_change s e in
    let told : Store = after_telling (tells_size e) changed process of in
    let first : descriptor_at told q fd ≡ descriptor_at changed q fd =
    ⊎_elim (λ same. same) (λ new. absurd (differ new.0)) (after_telling-cases (tells_size e) changed process of q fd) in
    let second : descriptor_at (store_after s call e) q fd ≡ descriptor_at told q fd =
    ⊎_elim (λ same. same) (λ new. absurd (differ new.0)) (after_call-cases (is_ended_by call entries) told process of entries q fd) in
    let less = changed_parts s e q fd differ stays in
    let same : part_turns (descriptor_at (store_after s call e) q fd) ≡ part_turns (descriptor_at changed q fd) = ap part_turns (second ∙ first) in
    omega (arith, less, same)

-- ---- the calls of other processes

-- a right that the turn attaches is none of these
abbrev pub FailsAttached : State → Option Entry → (Key → Right → Bool) → Type 0
FailsAttached m entry test =
    (at : At) (fd part : ℕ) (d : Descriptor) → entry ≡ Some (entries.Attached at fd part) → descriptor_at m.store at.process fd ≡ Some d →
    test (record { process = at.process; fd = fd; part = part }) (changes.new_right d.file (may_write d.mode)) ≡ false

-- what a turn does to rights: no key takes more turns that is no new one, and a right that is detached is of the file that
-- the process of the turn holds
pub record LeavesRights (m next : State) (p : Place) (entry : Option Entry) : Type 0 where
  pub rise_not : (test : Key → Right → Bool) → KeepsTest test → FailsAttached m entry test →
      NoneRises m.tables.rights m.posted next.tables.rights next.posted test
  pub detached : (at : At) (owner fd part : ℕ) → entry ≡ Some (entries.Detached at owner fd part) →
      (d : Descriptor) × (descriptor_at m.store owner fd ≡ Some d) × ((progress_of m p.at.process).held ≡ Some d.file)

three : (a b c d e f : ℕ) → a ≤ d → b ≡ e → c ≡ f → a + 9 * b + c ≤ d + 9 * e + f
three a b c d e f less one two = omega arith

one_less : (a b : ℕ) → a ≤ b → a + 1 ≤ b + 1
one_less a b less = omega arith

equal_less : (a b : ℕ) → a ≡ b → a ≤ b
equal_less a b same = omega arith

two_less : (a b s t : ℕ) → a ≤ b → s ≡ t → a + s + 1 ≤ b + t + 1
two_less a b s t less same = omega arith

module _ (v : Volume) (m next : State) (p : Place) (entry : Option Entry) (g : Progress) (reached : IsReached v m) (t : Turned v m next p entry g)
    (leaves : LeavesRights m next p entry) (q : ℕ) (x : Place) (differ : q ≢ p.at.process) (runs : running m q ≡ Some x) where
  abbrev held : Option ℕ
  held = (progress_of m q).held

  -- ---- the file that the process holds

  -- the rights on it take no more turns
  on_file_not : revocation_turns next.tables.rights next.posted (is_on_file held) ≤ revocation_turns m.tables.rights m.posted (is_on_file held)
  on_file_not =
      revocation_rises_not m.tables.rights next.tables.rights m.posted next.posted (is_on_file held)
      (leaves.rise_not (is_on_file held) (λ key right state. refl) fails)
    where
      fails : FailsAttached m entry (is_on_file (progress_of m q).held)
      fails at fd part d is there = by (progress_of m q).held refl
        where
          by : (o : Option ℕ) → (progress_of m q).held ≡ o → option_map_or (nat_eq d.file) o false ≡ false
          by None none = refl
          by (Some file) holds =
              let of : file_of m.store p ≡ Some d.file = attached_file v m next p entry g reached t at fd part d is there in
              ne_eqb d.file file
              (λ same. differ (t.alone (entries.Attached at fd part) is refl file q (of ∙ ap Some same) holds))

  -- nor do those of a descriptor of the process
  by_not : (fd : ℕ) →
      revocation_turns next.tables.rights next.posted (is_by x.at.process fd) ≤ revocation_turns m.tables.rights m.posted (is_by x.at.process fd)
  by_not fd =
      revocation_rises_not m.tables.rights next.tables.rights m.posted next.posted (is_by x.at.process fd)
      (leaves.rise_not (is_by x.at.process fd) (λ key right state. refl)
      (λ at number part d is there.
      let mine : at.process ≡ p.at.process = ap (λ (w : At). w.process) (t.added (entries.Attached at number part) is).at_is in
      and_left (nat_eq at.process x.at.process) (nat_eq number fd)
      (ne_eqb at.process x.at.process (λ same. differ (sym (running_process m q x runs) ∙ sym same ∙ mine)))))

  -- it is as it was
  same_file : (file : ℕ) → held ≡ Some file → file_in next.store file ≡ file_in m.store file
  same_file file holds =
      let of = reached.sound.holds_are.holds q file holds in
      let f = file_there m.store of.0 file reached.sound.calls.valid of.2 in
      ap (λ (s : Store). file_in s file) t.store ∙ by f.0 f.1 entry refl
    where
      by : (f : Inode) → file_in m.store file ≡ Some f → (o : Option Entry) → entry ≡ o → file_in (store_with m.store p.call o) file ≡ file_in m.store file
      by f there None is = refl
      by f there (Some e) is =
          ap (λ (files : List (Option Inode)). inode_at files file) (effect_of-files m.store (place_in m.store p.call (at_of e)) e).files
          ∙ same_changed m.store p.call e file f (t.added e is).next.keeps there (other_size v m next p entry g reached t q file differ holds e is)

  same_size : (file : ℕ) → held ≡ Some file → size_in next.store file ≡ size_in m.store file
  same_size file holds = ap (λ (slot : Option Inode). option_map_or (λ (f : Inode). f.size) slot 0) (same_file file holds)

  same_size_of : size_of next.store held ≡ size_of m.store held
  same_size_of = by held refl
    where
      by : (o : Option ℕ) → (progress_of m q).held ≡ o → option_map_or (size_in next.store) o 0 ≡ option_map_or (size_in m.store) o 0
      by None is = refl
      by (Some file) is = same_size file is

  same_blocks_of : blocks_of next.store held ≡ blocks_of m.store held
  same_blocks_of = by held refl
    where
      by : (o : Option ℕ) → (progress_of m q).held ≡ o →
          option_map_or (λ file. length (blocks_in next.store file)) o 0 ≡ option_map_or (λ file. length (blocks_in m.store file)) o 0
      by None is = refl
      by (Some file) is = ap (λ (slot : Option Inode). length (blocks_of_slot slot)) (same_file file is)

  kernel_not : kernel_turns next.store x held ≤ kernel_turns m.store x held
  kernel_not = by held refl
    where
      by : (o : Option ℕ) → (progress_of m q).held ≡ o → kernel_turns next.store x o ≤ kernel_turns m.store x o
      by None is = omega arith
      by (Some file) is =
          let same : growth_turns (size_in next.store file) (end_of_call x.call) ≡ growth_turns (size_in m.store file) (end_of_call x.call) =
          ap (λ (n : ℕ). growth_turns n (end_of_call x.call)) (same_size file is) in
          omega (arith, same)

  -- ---- pieces

  same_progress : progress_of next x.at.process ≡ progress_of m x.at.process
  same_progress =
      ap (progress_of next) (running_process m q x runs) ∙ t.follows.others q differ ∙ ap (progress_of m) (sym (running_process m q x runs))

  pieces_not : piece_turns next x held ≤ piece_turns m x held
  pieces_not =
      three _ _ _ _ _ _ kernel_not
      (ap (λ (g : Progress). count_by (is_untouched (record { place = x; outstanding = outstanding g })) (piece_numbers x.call)) same_progress)
      (ap command_turns same_progress)

  -- ---- the descriptor of an open or a map

  -- a right of its descriptor is not detached
  not_detached : attaches x.call ≡ true → x.before ≢ [] → (fd : ℕ) → fd_of x ≡ Some fd → (at : At) (part : ℕ) →
      entry ≡ Some (entries.Detached at x.at.process fd part) → ⊥
  not_detached does some fd named at part is =
      let gone = leaves.detached at x.at.process fd part is in
      let file = reached.sound.holds_are.begun_holding q x runs (attaching_holds x.call does) some in
      let same : file.0 ≡ gone.0.file = same_Some file.0 gone.0.file (sym file.1 ∙ descriptor_file gone.0 gone.1) in
      differ
      (reached.sound.holds_are.held_once gone.0.file q p.at.process
      (holding gone.0.file (progress_of m q) (file.2 ∙ ap Some same))
      (holding gone.0.file (progress_of m p.at.process) gone.2))
    where
      attaching_holds : (call : Call) → attaches call ≡ true → holds_throughout call ≡ true
      attaching_holds (Enter name mode hows.Direct) is = refl
      attaching_holds (Map fd) is = refl
      attaching_holds (Enter name mode hows.Plain) is = absurd (false≢true is)
      attaching_holds call is = absurd (false≢true is)

      descriptor_file : (d : Descriptor) → descriptor_at m.store x.at.process fd ≡ Some d → file_of m.store x ≡ Some d.file
      descriptor_file d there = by x.call refl does
        where
          by : (call : Call) → x.call ≡ call → attaches call ≡ true → file_of m.store x ≡ Some d.file
          by (Enter name mode hows.Direct) call_is does =
              let opened_is : opened_fd x.before ≡ Some fd = sym (ap (λ (c : Call). fd_of_call c x.before) call_is) ∙ named in
              let opened = reached.sound.holds_are.opened q fd x runs (ap is_open call_is) opened_is in
              let here : descriptor_at m.store q fd ≡ Some d = ap (λ (n : ℕ). descriptor_at m.store n fd) (sym (running_process m q x runs)) ∙ there in
              opened.2 ∙ ap (λ (y : Descriptor). Some y.file) (same_Some opened.0 d (sym opened.1 ∙ here))
          by (Map number) call_is does =
              ap (λ (c : Call). file_of_call m.store c (descriptor_of m.store x)) call_is
              ∙ ap (option_map (λ (y : Descriptor). y.file)) (ap (option_and_then (descriptor_at m.store x.at.process)) named ∙ there)
          by (Enter name mode hows.Plain) call_is does = absurd (false≢true does)
          by call call_is does = absurd (false≢true does)

  attach_not : attaches x.call ≡ true → x.before ≢ [] → attach_turns next.store x.at.process (fd_of x) ≤ attach_turns m.store x.at.process (fd_of x)
  attach_not does some = by (fd_of x) refl
    where
      by : (o : Option ℕ) → fd_of x ≡ o → attach_turns next.store x.at.process o ≤ attach_turns m.store x.at.process o
      by None none = omega arith
      by (Some fd) named =
          subst (λ (s : Store). part_turns (descriptor_at s x.at.process fd) ≤ part_turns (descriptor_at m.store x.at.process fd)) (sym t.store)
          (of_entry entry refl)
        where
          of_entry : (o : Option Entry) → entry ≡ o →
              part_turns (descriptor_at (store_with m.store p.call o) x.at.process fd) ≤ part_turns (descriptor_at m.store x.at.process fd)
          of_entry None is = omega arith
          of_entry (Some e) is =
              other_parts m.store p.call e x.at.process fd
              (λ same. differ (sym (running_process m q x runs) ∙ same ∙ ap (λ (w : At). w.process) (t.added e is).at_is))
              (λ at part e_is. not_detached does some fd named at part (is ∙ ap Some e_is))

  -- ---- all calls

  -- a call that attaches rights has begun with an entry
  begun_some : attaches x.call ≡ true → has_begun (running_of m x) ≡ true → x.before ≢ []
  begun_some does begun none =
      both_ways (has_begun (running_of m x))
      (empty-unbegun m x none (no_commands m x reached.sound.calls (ap (running m) (running_process m q x runs) ∙ runs) (attaching_pieces x.call does))) begun
    where
      attaching_pieces : (call : Call) → attaches call ≡ true → pieces_of_call call ≡ []
      attaching_pieces (Enter name mode hows.Direct) is = refl
      attaching_pieces (Map fd) is = refl
      attaching_pieces (Enter name mode hows.Plain) is = absurd (false≢true is)
      attaching_pieces call is = absurd (false≢true is)

  for_not : has_begun (running_of m x) ≡ true → turns_for next x x.call held ≤ turns_for m x x.call held
  for_not begun = by x.call refl
    where
      by : (call : Call) → x.call ≡ call → turns_for next x call (progress_of m q).held ≤ turns_for m x call (progress_of m q).held
      by (Enter name mode hows.Plain) is = one_less _ _ on_file_not
      by (Enter name mode hows.Direct) is =
          let does : attaches x.call ≡ true = ap attaches is in attach_not does (begun_some does begun)
      by (Create name perms) is = omega arith
      by (Read fd off len) is = pieces_not
      by (Write fd off bytes) is = pieces_not
      by (Truncate fd size) is = two_less _ _ _ _ on_file_not (ap (λ (n : ℕ). size_turns n size) same_size_of)
      by (Unlink name) is = one_less _ _ (equal_less _ _ same_blocks_of)
      by (Size fd) is = omega arith
      by (Map fd) is =
          let does : attaches x.call ≡ true = ap attaches is in attach_not does (begun_some does begun)
      by (Close fd) is = one_less _ _ (by_not fd)
      by (RawRead address range) is = pieces_not
      by (RawWrite address lo bytes) is = pieces_not

  -- a call of another process has no more turns left
  pub others_not : has_begun (running_of m x) ≡ true → turns_left next x ≤ turns_left m x
  others_not begun =
      subst (λ (h : Option ℕ). turns_for next x x.call h ≤ turns_left m x) (ap (λ (g : Progress). g.held) (sym same_progress))
      (subst (λ (n : ℕ). turns_for next x x.call (progress_of m n).held ≤ turns_for m x x.call (progress_of m n).held)
      (sym (running_process m q x runs)) (for_not begun))
