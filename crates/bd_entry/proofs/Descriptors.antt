-- Descriptors of a store as one of them, or one of the files, is changed.
use Rattle.std.proofs.Common.{◌≡◌, ◌≢◌, ℕ, ◌<◌, ◌≤◌, Bool, true, false, List, [], ◌∷◌, length, Option, None, Some, ◌⊎◌, inl, inr, zero, suc, refl, sym, ap, ◌∙◌, subst, arith, ⊎_elim}
use Rattle.std.specs.Prelude.{◌&&◌, nat_eq, nat_lt, is_some, slice_index_or, slice_set, All, IsSome, IsTrue}
use Rattle.std.specs.Option.{option_map}
use Rattle.std.specs.List.{list_any}
use Rattle.std.specs.List.Sorted.{IsStrictlyIncreasing}
use Rattle.std.proofs.lemmas.Bool.{and_right, eq-eqb, eqb-false, ltb-false, true_from_ne_false}
use Rattle.std.proofs.lemmas.List.{length-set}
use Rattle.std.proofs.lemmas.List.Elements.{All-cons, All-head, All-nil, All-tail}
use Rattle.bd_base.specs.declared.limits.TheConstants.{DESCRIPTORS}
use Rattle.std.proofs.lemmas.Option.{none-some, same_Some}
use Rattle.bd_base.specs.declared.script.How.TheVariants.{Direct}
use Rattle.bd_base.specs.declared.volume.Inode.{Inode}
use Rattle.bd_base.specs.Files.{parts_for}
use Rattle.bd_base.specs.Inodes.{blocks_of_slot, inode_at}
use Rattle.bd_entry.specs.declared.entry.Entry.{Entry}
use Rattle.bd_entry.specs.Store.{Descriptor, IsDescriptor, Store, attaches_by, descriptor_at, first_holder, has_part, has_rights, has_rights_on, in_slot, is_attached_of, is_open_of, is_plain, is_plain_of, size_at}
use Rattle.bd_entry.proofs.Holders.{is_some-first_holder}
use Rattle.bd_entry.proofs.Slots.{none_row, none_set, none_slot, row_cases, slot_cases}

-- ---- what descriptors are

-- the descriptors of each process by their numbers
abbrev pub Rows : Type 0
Rows = List (List (Option Descriptor))

-- the descriptor of a process with this number
abbrev pub slot_at : Rows → ℕ → ℕ → Option Descriptor
slot_at opens process fd = in_slot (slice_index_or opens process []) fd

-- the descriptors with this in the slot of one
abbrev pub set_slot : Rows → ℕ → ℕ → Option Descriptor → Rows
set_slot opens process fd slot = slice_set opens process (slice_set (slice_index_or opens process []) fd slot)

-- whether a slot has a plain descriptor of the file
abbrev pub any_plain : Rows → ℕ → Bool
any_plain opens file = list_any (list_any (is_plain_of file)) opens

-- a descriptor of a valid store, where its sizes may be those of another time or not
pub record IsSound (files : List (Option Inode)) (opens : Rows) (stale : Bool) (d : Descriptor) : Type 0 where
  pub of_file : IsSome (inode_at files d.file)
  pub ascending : IsStrictlyIncreasing d.attached
  pub cleared_ascending : IsStrictlyIncreasing d.cleared
  pub parts : All (λ part. part < parts_for (length (blocks_of_slot (inode_at files d.file)))) d.attached
  pub cleared : All (λ part. IsTrue (has_part part d.attached)) d.cleared
  pub sizes : d.attached ≢ [] → stale ≡ false → (d.known ≤ size_at files d.file) × (d.told ≤ size_at files d.file)
  pub direct : d.attached ≢ [] → (d.how ≡ Direct) × (any_plain opens d.file ≡ false)

-- so is every descriptor
pub record AreSound (files : List (Option Inode)) (opens : Rows) (stale : ℕ → ℕ → Bool) : Type 0 where
  pub at : (process fd : ℕ) (d : Descriptor) → slot_at opens process fd ≡ Some d → IsSound files opens (stale process fd) d

-- whether the running call of the process attaches by the descriptor
abbrev pub attaching : List (List Entry) → ℕ → ℕ → Bool
attaching work process fd = list_any (attaches_by fd) (slice_index_or work process [])

pub sound_all : (s : Store) → ((process fd : ℕ) (d : Descriptor) → descriptor_at s process fd ≡ Some d → IsDescriptor s process fd d) →
    AreSound s.files s.opens (attaching s.work)
sound_all s all = record {
  at = λ process fd d e.
      let sound = all process fd d e in
      record {
        of_file = sound.of_file;
        ascending = sound.ascending;
        cleared_ascending = sound.cleared_ascending;
        parts = sound.parts;
        cleared = sound.cleared;
        sizes = λ some fresh. (sound.known some fresh, sound.told some fresh);
        direct = λ some. (sound.direct some, sym (is_some-first_holder (is_plain_of d.file) 0 s.opens) ∙ sound.no_plain some);
      };
}

pub all_sound : (s : Store) → AreSound s.files s.opens (attaching s.work) → (process fd : ℕ) (d : Descriptor) →
    descriptor_at s process fd ≡ Some d →
    IsDescriptor s process fd d
all_sound s all process fd d e =
    let sound = all.at process fd d e in
    record {
      of_file = sound.of_file;
      ascending = sound.ascending;
      cleared_ascending = sound.cleared_ascending;
      parts = sound.parts;
      cleared = sound.cleared;
      known = λ some fresh. (sound.sizes some fresh).0;
      told = λ some fresh. (sound.sizes some fresh).1;
      direct = λ some. (sound.direct some).0;
      no_plain = λ some. is_some-first_holder (is_plain_of d.file) 0 s.opens ∙ (sound.direct some).1;
    }

weaker : (files : List (Option Inode)) (opens more_opens : Rows) (stale less_stale : Bool) (d : Descriptor) → IsSound files opens stale d →
    (less_stale ≡ false → stale ≡ false) → (d.attached ≢ [] → any_plain opens d.file ≡ false → any_plain more_opens d.file ≡ false) →
    IsSound files more_opens less_stale d
weaker files opens more_opens stale less_stale d sound sizes plain = record {
  of_file = sound.of_file;
  ascending = sound.ascending;
  cleared_ascending = sound.cleared_ascending;
  parts = sound.parts;
  cleared = sound.cleared;
  sizes = λ some fresh. sound.sizes some (sizes fresh);
  direct = λ some. ((sound.direct some).0, plain some (sound.direct some).1);
}

-- the same descriptors where fewer sizes may be those of another time
pub fresher : (files : List (Option Inode)) (opens : Rows) (stale less_stale : ℕ → ℕ → Bool) → AreSound files opens stale →
    ((process fd : ℕ) → less_stale process fd ≡ false → stale process fd ≡ false) → AreSound files opens less_stale
fresher files opens stale less_stale all less = record {
  at = λ process fd d e. weaker files opens opens (stale process fd) (less_stale process fd) d (all.at process fd d e) (less process fd) (λ some none. none);
}

-- ---- a slot is changed

-- no plain descriptor of the file is open where none was and no such one joins
plain_kept : (opens : Rows) (process fd : ℕ) (slot : Option Descriptor) (file : ℕ) → any_plain opens file ≡ false →
    is_plain_of file slot ≡ false →
    any_plain (set_slot opens process fd slot) file ≡ false
plain_kept opens process fd slot file none new =
    none_set (list_any (is_plain_of file)) opens process (slice_set (slice_index_or opens process []) fd slot) none
    (none_set (is_plain_of file) (slice_index_or opens process []) fd slot (none_row (is_plain_of file) opens process none) new)

-- what passes no test of any slot does not pass it where it stands
pub none_at : (test : Option Descriptor → Bool) (opens : Rows) (process fd : ℕ) (d : Descriptor) → list_any (list_any test) opens ≡ false →
    slot_at opens process fd ≡ Some d → test (Some d) ≡ false
none_at test opens process fd d none e = none_slot test (slice_index_or opens process []) fd d (none_row test opens process none) e

-- a direct descriptor is no plain one
not_plain : (file : ℕ) (d : Descriptor) → d.how ≡ Direct → is_plain_of file (Some d) ≡ false
not_plain file d direct = and_right _ (is_plain d.how) (ap is_plain direct)

-- what a descriptor is after one slot has changed
pub slot_at-set_slot : (opens : Rows) (p f : ℕ) (slot : Option Descriptor) (process fd : ℕ) (d : Descriptor) →
    slot_at (set_slot opens p f slot) process fd ≡ Some d →
    ((process ≡ p) × (fd ≡ f) × (slot ≡ Some d)) ⊎ (¬ ((process ≡ p) × (fd ≡ f)) × (slot_at opens process fd ≡ Some d))
slot_at-set_slot opens p f slot process fd d e =
    ⊎_elim
    (λ row.
    ⊎_elim
    (λ here. inl (row.0, here.0, here.1))
    (λ other. inr (λ both. other.0 both.1, subst (λ (n : ℕ). in_slot (slice_index_or opens n []) fd ≡ Some d) (sym row.0) other.1))
    (slot_cases (slice_index_or opens p []) f slot fd d row.1))
    (λ other. inr (λ both. other.0 both.0, other.1))
    (row_cases opens p (slice_set (slice_index_or opens p []) f slot) process fd d e)

-- no descriptor with rights has its file open by this one too, by the kernel alone
abbrev pub SparesRights : Rows → Option Descriptor → Type 0
SparesRights opens slot =
    (process fd : ℕ) (d : Descriptor) → slot_at opens process fd ≡ Some d → d.attached ≢ [] → is_plain_of d.file slot ≡ false

-- every descriptor is sound after one slot has changed
pub sound-set_slot : (files : List (Option Inode)) (opens : Rows) (p f : ℕ) (slot : Option Descriptor) (stale new_stale : ℕ → ℕ → Bool) →
    AreSound files opens stale → SparesRights opens slot →
    ((d : Descriptor) → slot ≡ Some d → IsSound files opens (new_stale p f) d) →
    ((process fd : ℕ) → ¬ ((process ≡ p) × (fd ≡ f)) → new_stale process fd ≡ false → stale process fd ≡ false) →
    AreSound files (set_slot opens p f slot) new_stale
sound-set_slot files opens p f slot stale new_stale all spares sound others = record {
  at = λ process fd d e.
      ⊎_elim
      (λ here.
      let at_slot : new_stale p f ≡ new_stale process fd = ap (λ (n : ℕ). new_stale n f) (sym here.0) ∙ ap (new_stale process) (sym here.1) in
      let new = sound d here.2 in
      weaker files opens (set_slot opens p f slot) (new_stale p f) (new_stale process fd) d new (λ fresh. at_slot ∙ fresh)
      (λ some none. plain_kept opens p f slot d.file none
      (subst (λ (o : Option Descriptor). is_plain_of d.file o ≡ false) (sym here.2) (not_plain d.file d (new.direct some).0))))
      (λ other.
      weaker files opens (set_slot opens p f slot) (stale process fd) (new_stale process fd) d (all.at process fd d other.1) (others process fd other.0)
      (λ some none. plain_kept opens p f slot d.file none (spares process fd d other.1 some)))
      (slot_at-set_slot opens p f slot process fd d e);
}

-- a slot with a changed descriptor
pub changed_slot : (change : Descriptor → Descriptor) (slot : Option Descriptor) (d : Descriptor) → option_map change slot ≡ Some d →
    (old : Descriptor) × (slot ≡ Some old) × (change old ≡ d)
changed_slot change None d e = absurd (none-some d e)
changed_slot change (Some old) d e = (old, refl, same_Some (change old) d e)

-- a change of descriptors that keeps file and way
pub record KeepsFile (change : Descriptor → Descriptor) : Type 0 where
  pub file : (d : Descriptor) → (change d).file ≡ d.file
  pub plain : (file : ℕ) (d : Descriptor) → is_plain_of file (Some (change d)) ≡ is_plain_of file (Some d)

plain_changed : (change : Descriptor → Descriptor) → KeepsFile change → (file : ℕ) (slot : Option Descriptor) →
    ((d : Descriptor) → slot ≡ Some d → is_plain_of file (Some d) ≡ false) → is_plain_of file (option_map change slot) ≡ false
plain_changed change keeps file None none = refl
plain_changed change keeps file (Some d) none = keeps.plain file d ∙ none d refl

-- every descriptor is sound after one has changed so
pub sound-changed : (files : List (Option Inode)) (opens : Rows) (p f : ℕ) (change : Descriptor → Descriptor) → KeepsFile change →
    (stale new_stale : ℕ → ℕ → Bool) → AreSound files opens stale →
    ((d : Descriptor) → slot_at opens p f ≡ Some d → IsSound files opens (new_stale p f) (change d)) →
    ((process fd : ℕ) → ¬ ((process ≡ p) × (fd ≡ f)) → new_stale process fd ≡ false → stale process fd ≡ false) →
    AreSound files (set_slot opens p f (option_map change (slot_at opens p f))) new_stale
sound-changed files opens p f change keeps stale new_stale all sound others =
    sound-set_slot files opens p f (option_map change (slot_at opens p f)) stale new_stale all
    (λ process fd d e some.
    plain_changed change keeps d.file (slot_at opens p f)
    (λ old is. none_at (is_plain_of d.file) opens p f old ((all.at process fd d e).direct some).1 is))
    (λ d e.
    let old = changed_slot change (slot_at opens p f) d e in
    subst (IsSound files opens (new_stale p f)) old.2 (sound old.0 old.1))
    others

-- ---- a file is changed

-- other files stay for a descriptor: its file is there, and where it has rights the file is not smaller and has no fewer parts
pub record StayFor (files new_files : List (Option Inode)) (d : Descriptor) : Type 0 where
  pub is_there : IsSome (inode_at new_files d.file)
  pub size : d.attached ≢ [] → size_at files d.file ≤ size_at new_files d.file
  pub parts : d.attached ≢ [] →
      parts_for (length (blocks_of_slot (inode_at files d.file))) ≤ parts_for (length (blocks_of_slot (inode_at new_files d.file)))

-- a descriptor is sound with other files, which stay for it
pub sound-files : (files new_files : List (Option Inode)) (opens : Rows) (stale : Bool) (d : Descriptor) → IsSound files opens stale d →
    StayFor files new_files d → IsSound new_files opens stale d
sound-files files new_files opens stale d sound stay = record {
  of_file = stay.is_there;
  ascending = sound.ascending;
  cleared_ascending = sound.cleared_ascending;
  parts = each_part d.attached refl;
  cleared = sound.cleared;
  sizes = λ some fresh.
      let size = stay.size some in
      let old = sound.sizes some fresh in
      (omega arith, omega arith);
  direct = sound.direct;
}
  where
    each_part : (parts : List ℕ) → d.attached ≡ parts → All (λ part. part < parts_for (length (blocks_of_slot (inode_at new_files d.file)))) d.attached
    each_part [] none = subst (All (λ part. part < parts_for (length (blocks_of_slot (inode_at new_files d.file))))) (sym none) (All-nil _)
    each_part (x ∷ xs) is =
        let no_fewer = stay.parts (λ none. let no : ⊥ = cc in no) in
        λ k part within. let below = sound.parts k part within in omega arith

-- no descriptor of a file is open where none of its slots is
pub none_open : (opens : Rows) (file process fd : ℕ) (d : Descriptor) → is_some (first_holder (is_open_of file) 0 opens) ≡ false →
    slot_at opens process fd ≡ Some d → d.file ≢ file
none_open opens file process fd d none e same =
    eqb-false d.file file (none_at (is_open_of file) opens process fd d (sym (is_some-first_holder (is_open_of file) 0 opens) ∙ none) e) same

-- no descriptor of a file has a right where none is attached
pub none_attached : (opens : Rows) (file process fd : ℕ) (d : Descriptor) → list_any (list_any (is_attached_of file)) opens ≡ false →
    slot_at opens process fd ≡ Some d → d.file ≡ file → d.attached ≡ []
none_attached opens file process fd d none e same =
    let fails : (nat_eq d.file file && has_rights d) ≡ false = none_at (is_attached_of file) opens process fd d none e in
    let is : nat_eq d.file file ≡ true = eq-eqb d.file file same in
    no_parts d.attached (rw is at fails)
  where
    no_parts : (parts : List ℕ) → nat_lt 0 (length parts) ≡ false → parts ≡ []
    no_parts [] none = refl
    no_parts (x ∷ xs) none = absurd (let no : length (x ∷ xs) ≤ 0 = ltb-false 0 (length (x ∷ xs)) none in omega arith)

-- a descriptor with rights has them on its file
pub rights-on : (s : Store) (process fd : ℕ) (d : Descriptor) → descriptor_at s process fd ≡ Some d → d.attached ≢ [] →
    has_rights_on s d.file ≡ true
rights-on s process fd d is some = true_from_ne_false (has_rights_on s d.file) (λ none. some (none_attached s.opens d.file process fd d none is refl))

-- ---- rows

-- the rows of a store stay as they are
pub rows-set_slot : (opens : Rows) (p f : ℕ) (slot : Option Descriptor) → All (λ (row : List (Option Descriptor)). length row ≡ DESCRIPTORS) opens →
    All (λ (row : List (Option Descriptor)). length row ≡ DESCRIPTORS) (set_slot opens p f slot)
rows-set_slot [] p f slot all = all
rows-set_slot (row ∷ opens) zero f slot all =
    let P : List (Option Descriptor) → Type 0 = λ r. length r ≡ DESCRIPTORS in
    All-cons P (slice_set row f slot) opens (length-set row f slot ∙ All-head P row opens all) (All-tail P row opens all)
rows-set_slot (row ∷ opens) (suc p) f slot all =
    let P : List (Option Descriptor) → Type 0 = λ r. length r ≡ DESCRIPTORS in
    All-cons P row (set_slot opens p f slot) (All-head P row opens all) (rows-set_slot opens p f slot (All-tail P row opens all))
