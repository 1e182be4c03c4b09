-- A volume stays sound as one file of it, and bytes of its blocks, change.
use Rattle.std.proofs.Common.{◌≡◌, ◌≢◌, ℕ, ◌+◌, ◌-◌, ◌*◌, ◌/◌, ◌%◌, ◌<◌, ◌≤◌, min, true, nat_lt, is_some, List, [], ◌∷◌, ◌++◌, length, replicate, slice_index, slice_set, Option, None, Some, arith, refl, sym, ap, ◌∙◌, inl, inr, subst}
use Rattle.std.proofs.lemmas.Bool.{cases_eq, cond-true, cond_both, lt-ltb, ltb-false, ltb-true}
use Rattle.std.proofs.lemmas.List.{get_or_push, length-set, length-take, length_push}
use Rattle.std.proofs.lemmas.Option.{none-some, same_Some}
use Rattle.bd_base.specs.declared.limits.TheConstants.{BLOCK_SIZE, EXTENTS, FILE_SIZE, PERMS, USERS}
use Rattle.bd_base.specs.declared.volume.Inode.{Inode}
use Rattle.bd_base.specs.declared.volume.Volume.{Volume}
use Rattle.bd_base.specs.Allocation.{is_data_block, last_block}
use Rattle.bd_base.specs.Bytes.{AreBytes}
use Rattle.bd_base.specs.Extents.{extents_of}
use Rattle.bd_base.specs.Files.{blocks_for, limit_of}
use Rattle.bd_base.specs.Inodes.{AreValidFiles, empty_file, free_id, grown_file, id_of, inode_at, without_last}
use Rattle.bd_base.specs.Names.{IsName}
use Rattle.bd_base.specs.Volumes.{HasZeroTail, IsSoundVolume}
use Rattle.bd_base.proofs.FileLists.{inode_at-set_other, inode_at-set_same, inode_at-within}
use Rattle.bd_base.proofs.Owners.{StandsAt, one_owner}
use Rattle.bd_base.proofs.ValidFiles.{AreValidFiles-dropped, AreValidFiles-grown, AreValidFiles-made, AreValidFiles-removed, AreValidFiles-resized, IsFree, free_id-free}
use Rattle.bd_entry.specs.Effects.{with_block_bytes, with_bytes_at, with_zero_tail}
use Rattle.bd_entry.proofs.VolumeBytes.{IsWrite, KeepsBytes, KeepsBytes-same, KeepsBytes-written, tail-there, tail-written, tail-zeros, zeros-write}

-- what a volume with these bytes asks of a file beside the blocks and the size
pub record IsSoundFile (bytes : List ℕ) (f : Inode) : Type 0 where
  pub name : IsName f.name
  pub perms : f.perms < PERMS
  pub owner : f.owner < USERS
  pub tail : HasZeroTail bytes f

pub IsSoundFile-at : (v : Volume) (id : ℕ) (f : Inode) → IsSoundVolume v → inode_at v.inodes id ≡ Some f → IsSoundFile v.bytes f
IsSoundFile-at v id f sound there =
    record { name = sound.files.names id f there; perms = sound.files.perms id f there; owner = sound.owners id f there; tail = sound.tails id f there }

-- a change of one file and of bytes that keeps a volume sound
pub record IsSoundChange (v : Volume) (id : ℕ) (slot : Option Inode) (bytes : List ℕ) : Type 0 where
  pub inside : id < length v.inodes
  pub valid : AreValidFiles v.total (slice_set v.inodes id slot)
  pub keeps : KeepsBytes (length v.inodes) v.bytes bytes
  pub this : (f : Inode) → slot ≡ Some f → IsSoundFile bytes f
  pub others : (k : ℕ) (g : Inode) → k ≢ id → inode_at v.inodes k ≡ Some g → HasZeroTail bytes g

module _ (v : Volume) (id : ℕ) (slot : Option Inode) (bytes : List ℕ) (sound : IsSoundVolume v) (change : IsSoundChange v id slot bytes) where
  sound_file : (k : ℕ) (f : Inode) → inode_at (slice_set v.inodes id slot) k ≡ Some f → IsSoundFile bytes f
  sound_file k f at =
      elim (cases_eq k id) [
        | inl same ↦
            change.this f
            (sym (inode_at-set_same v.inodes id slot change.inside) ∙ subst (λ j. inode_at (slice_set v.inodes id slot) j ≡ Some f) same at)
        | inr other ↦
            let there : inode_at v.inodes k ≡ Some f = sym (inode_at-set_other v.inodes id k slot other) ∙ at in
            let was : IsSoundFile v.bytes f = IsSoundFile-at v k f sound there in
            record { name = was.name; perms = was.perms; owner = was.owner; tail = change.others k f other there }
      ]

  pub sound-changed : IsSoundVolume (record { total = v.total; inodes = slice_set v.inodes id slot; bytes = bytes })
  sound-changed =
      let files = sound.files in
      record {
        files = record {
          valid = change.valid;
          enough_blocks = files.enough_blocks;
          some_room = rw length-set files.some_room;
          whole_blocks = rw length-set files.whole_blocks;
          names = λ k f at. (sound_file k f at).name;
          perms = λ k f at. (sound_file k f at).perms;
        };
        owners = λ k f at. (sound_file k f at).owner;
        are_bytes = change.keeps.are_bytes;
        all_bytes = change.keeps.same_length ∙ sound.all_bytes;
        metadata = rw length-set (change.keeps.metadata ∙ sound.metadata);
        tails = λ k f at. (sound_file k f at).tail;
      }

-- ---- a file that is made or taken away

pub sound-made : (v : Volume) (id : ℕ) (name : List ℕ) (owner perms : ℕ) → IsSoundVolume v → free_id v.inodes ≡ Some id →
    id_of name v.inodes ≡ None → IsName name → owner < USERS → perms < PERMS →
    IsSoundVolume (record { total = v.total; inodes = slice_set v.inodes id (Some (empty_file name owner perms)); bytes = v.bytes })
sound-made v id name owner perms sound lowest unused is_name is_user are_perms =
    let made : Inode = empty_file name owner perms in
    sound-changed v id (Some made) v.bytes sound (record {
      inside = (free_id-free v.inodes id lowest).0;
      valid = AreValidFiles-made v.total v.inodes id made lowest refl refl unused sound.files.valid;
      keeps = KeepsBytes-same v sound;
      this = λ f is. subst (IsSoundFile v.bytes) (same_Some made f is) (record {
        name = is_name;
        perms = are_perms;
        owner = is_user;
        tail = λ i past inside. absurd (omega arith);
      });
      others = λ k g other there. sound.tails k g there;
    })

pub sound-removed : (v : Volume) (id : ℕ) (file : Inode) → IsSoundVolume v → inode_at v.inodes id ≡ Some file → file.blocks ≡ [] →
    IsSoundVolume (record { total = v.total; inodes = slice_set v.inodes id None; bytes = v.bytes })
sound-removed v id file sound there empty =
    sound-changed v id None v.bytes sound (record {
      inside = inode_at-within v.inodes id (ap is_some there);
      valid = AreValidFiles-removed v.total v.inodes id file sound.files.valid there empty;
      keeps = KeepsBytes-same v sound;
      this = λ f is. absurd (none-some f is);
      others = λ k g other there. sound.tails k g there;
    })

-- ---- a file that is there

-- a change of a file that keeps its name, its owner and its perms
pub record IsFileChange (v : Volume) (id : ℕ) (file changed : Inode) (bytes : List ℕ) : Type 0 where
  pub there : inode_at v.inodes id ≡ Some file
  pub name : changed.name ≡ file.name
  pub owner : changed.owner ≡ file.owner
  pub perms : changed.perms ≡ file.perms
  pub valid : AreValidFiles v.total (slice_set v.inodes id (Some changed))
  pub keeps : KeepsBytes (length v.inodes) v.bytes bytes
  pub tail : HasZeroTail bytes changed
  pub others : (g : Inode) → HasZeroTail v.bytes g → HasZeroTail bytes g

file-changed : (v : Volume) (id : ℕ) (file changed : Inode) (bytes : List ℕ) → IsSoundVolume v → IsFileChange v id file changed bytes →
    IsSoundVolume (record { total = v.total; inodes = slice_set v.inodes id (Some changed); bytes = bytes })
file-changed v id file changed bytes sound change =
    let was : IsSoundFile v.bytes file = IsSoundFile-at v id file sound change.there in
    sound-changed v id (Some changed) bytes sound (record {
      inside = inode_at-within v.inodes id (ap is_some change.there);
      valid = change.valid;
      keeps = change.keeps;
      this = λ f is. subst (IsSoundFile bytes) (same_Some changed f is) (record {
        name = subst IsName (sym change.name) was.name;
        perms = omega (arith, was.perms, change.perms);
        owner = omega (arith, was.owner, change.owner);
        tail = change.tail;
      });
      others = λ k g other there. change.others g (sound.tails k g there);
    })

-- it loses its last block
pub sound-dropped : (v : Volume) (id : ℕ) (file : Inode) (block : ℕ) → IsSoundVolume v → inode_at v.inodes id ≡ Some file →
    last_block file.blocks ≡ Some block →
    IsSoundVolume (record { total = v.total; inodes = slice_set v.inodes id (Some (without_last file)); bytes = v.bytes })
sound-dropped v id file block sound there last =
    file-changed v id file (without_last file) v.bytes sound (record {
      there = there;
      name = refl;
      owner = refl;
      perms = refl;
      valid = AreValidFiles-dropped v.inodes id file block there last v.total sound.files.valid;
      keeps = KeepsBytes-same v sound;
      tail = λ i past inside. absurd (omega (arith, past, inside, length-take (length file.blocks - 1) file.blocks));
      others = λ g zero. zero;
    })

-- its size grows within its last block
pub sound-grown_within : (v : Volume) (id : ℕ) (file : Inode) (to : ℕ) → IsSoundVolume v → inode_at v.inodes id ≡ Some file → file.size ≤ to →
    length file.blocks ≡ blocks_for to →
    IsSoundVolume (record { total = v.total; inodes = slice_set v.inodes id (Some (record file { size = to })); bytes = v.bytes })
sound-grown_within v id file to sound there larger enough =
    file-changed v id file (record file { size = to }) v.bytes sound (record {
      there = there;
      name = refl;
      owner = refl;
      perms = refl;
      valid = AreValidFiles-resized v.total v.inodes id file to sound.files.valid there enough;
      keeps = KeepsBytes-same v sound;
      tail = λ i past inside. sound.tails id file there i (omega arith) inside;
      others = λ g zero. zero;
    })

-- it takes a block, which is all zeros
pub sound-grown : (v : Volume) (id : ℕ) (file : Inode) (block to : ℕ) → IsSoundVolume v → inode_at v.inodes id ≡ Some file →
    IsFree v.total v.inodes block → BLOCK_SIZE * length file.blocks ≤ to → length file.blocks + 1 ≡ blocks_for to → to ≤ FILE_SIZE →
    length (extents_of (file.blocks ++ block ∷ [])) ≤ EXTENTS →
    IsSoundVolume (record {
      total = v.total;
      inodes = slice_set v.inodes id (Some (grown_file file (Some block) to));
      bytes = with_block_bytes (Some block) 0 (replicate BLOCK_SIZE 0) v.bytes;
    })
sound-grown v id file block to sound there free larger enough in_range few =
    let grown : Inode = grown_file file (Some block) to in
    let below : 0 ≤ BLOCK_SIZE = omega arith in
    file-changed v id file grown (with_bytes_at (BLOCK_SIZE * block + 0) (replicate (BLOCK_SIZE - 0) 0) v.bytes) sound (record {
      there = there;
      name = refl;
      owner = refl;
      perms = refl;
      valid = AreValidFiles-grown v.total v.inodes id file block to sound.files.valid there free enough in_range few;
      keeps = KeepsBytes-written v sound block 0 (replicate (BLOCK_SIZE - 0) 0) (zeros-write v block 0 free.is_data below);
      tail = tail-there v sound block 0 free.is_data below grown (length file.blocks) (get_or_push file.blocks block 0 (length file.blocks) refl)
          (length_push file.blocks block) (omega arith);
      others = λ g zero. tail-zeros v sound block 0 free.is_data below g zero;
    })

-- it gets a size for which it has the blocks, and zeros past it
pub sound-resized : (v : Volume) (id : ℕ) (file : Inode) (size : ℕ) → IsSoundVolume v → inode_at v.inodes id ≡ Some file →
    length file.blocks ≡ blocks_for size →
    IsSoundVolume (record {
      total = v.total;
      inodes = slice_set v.inodes id (Some (record file { size = size }));
      bytes = with_zero_tail file size v.bytes;
    })
sound-resized v id file size sound there enough =
    cond_both (nat_lt 0 (length file.blocks)) _ v.bytes
    (λ (bytes : List ℕ). IsSoundVolume (record { total = v.total; inodes = slice_set v.inodes id (Some (record file { size = size })); bytes = bytes }))
    (λ some. by_block (ltb-true 0 (length file.blocks) some))
    (λ none. without_block (ltb-false 0 (length file.blocks) none))
  where
    valid : AreValidFiles v.total (slice_set v.inodes id (Some (record file { size = size })))
    valid = AreValidFiles-resized v.total v.inodes id file size sound.files.valid there enough

    without_block : length file.blocks ≤ 0 →
        IsSoundVolume (record { total = v.total; inodes = slice_set v.inodes id (Some (record file { size = size })); bytes = v.bytes })
    without_block none =
        file-changed v id file (record file { size = size }) v.bytes sound (record {
          there = there;
          name = refl;
          owner = refl;
          perms = refl;
          valid = valid;
          keeps = KeepsBytes-same v sound;
          tail = λ i past inside. absurd (omega arith);
          others = λ g zero. zero;
        })

    by_block : 0 < length file.blocks →
        let last = length file.blocks - 1 in
        let lo = size - BLOCK_SIZE * last in
        IsSoundVolume (record {
          total = v.total;
          inodes = slice_set v.inodes id (Some (record file { size = size }));
          bytes = with_bytes_at (BLOCK_SIZE * slice_index file.blocks last + lo) (replicate (BLOCK_SIZE - lo) 0) v.bytes;
        })
    by_block some =
        let last = length file.blocks - 1 in
        let lo = size - BLOCK_SIZE * last in
        let block = slice_index file.blocks last in
        let is_data : is_data_block v.total (length v.inodes) block ≡ true =
        (sound.files.valid.each id file there).in_data_area last 0 (omega arith) in
        let below : lo ≤ BLOCK_SIZE = omega (arith, enough) in
        file-changed v id file (record file { size = size }) (with_bytes_at (BLOCK_SIZE * block + lo) (replicate (BLOCK_SIZE - lo) 0) v.bytes) sound (record {
          there = there;
          name = refl;
          owner = refl;
          perms = refl;
          valid = valid;
          keeps = KeepsBytes-written v sound block lo (replicate (BLOCK_SIZE - lo) 0) (zeros-write v block lo is_data below);
          tail = tail-there v sound block lo is_data below (record file { size = size }) last refl (omega arith) (omega (arith, enough));
          others = λ g zero. tail-zeros v sound block lo is_data below g zero;
        })

-- ---- bytes of a block of a file

pub sound-written : (v : Volume) (id : ℕ) (file : Inode) (index block lo : ℕ) (new : List ℕ) → IsSoundVolume v →
    inode_at v.inodes id ≡ Some file → StandsAt file.blocks index block → AreBytes new → lo + length new ≤ limit_of file.size file.blocks index →
    IsSoundVolume (record { total = v.total; inodes = v.inodes; bytes = with_block_bytes (Some block) lo new v.bytes })
sound-written v id file index block lo new sound there at are_bytes within = record {
  files = sound.files;
  owners = sound.owners;
  are_bytes = keeps.are_bytes;
  all_bytes = keeps.same_length ∙ sound.all_bytes;
  metadata = keeps.metadata ∙ sound.metadata;
  tails = λ k g g_there. tail-written v sound block lo new write g (sound.tails k g g_there) (before_tail k g g_there);
}
  where
    limit : limit_of file.size file.blocks index ≡ min BLOCK_SIZE (file.size - BLOCK_SIZE * index)
    limit = cond-true (nat_lt index (length file.blocks)) _ _ (lt-ltb index (length file.blocks) at.inside)

    write : IsWrite v block lo new
    write = record {
      is_data = subst (λ b. is_data_block v.total (length v.inodes) b ≡ true) at.is ((sound.files.valid.each id file there).in_data_area index 0 at.inside);
      within = omega (arith, within, limit);
      are_bytes = are_bytes;
    }

    keeps : KeepsBytes (length v.inodes) v.bytes (with_bytes_at (BLOCK_SIZE * block + lo) new v.bytes)
    keeps = KeepsBytes-written v sound block lo new write

    before_tail : (k : ℕ) (g : Inode) → inode_at v.inodes k ≡ Some g → (i : ℕ) → g.size ≤ i → i < BLOCK_SIZE * length g.blocks →
        slice_index g.blocks (i / BLOCK_SIZE) ≡ block → lo + length new ≤ i % BLOCK_SIZE
    before_tail k g g_there i past inside same =
        let both = one_owner v.total v.inodes k id g file (i / BLOCK_SIZE) index block sound.files.valid g_there there
        (record { inside = omega arith; is = same }) at in
        let one : g ≡ file = same_Some g file (sym g_there ∙ ap (inode_at v.inodes) both.0 ∙ there) in
        let size : g.size ≡ file.size = ap (λ (f : Inode). f.size) one in
        omega (arith, both.1, size, within, limit, past)
