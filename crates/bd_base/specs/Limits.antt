-- The limits by their numbers. Everything else names them.
use Rattle.std.specs.Prelude.{◌≡◌, ◌^◌}
use Rattle.bd_base.specs.declared.key_list.TheConstants.{MOST_KEYS}
use Rattle.bd_base.specs.declared.limits.TheConstants.{ACTORS, ADDRESSES, BLOCK_RECORDS, BLOCK_SIZE, BLOCKS}
use Rattle.bd_base.specs.declared.limits.TheConstants.{CALL_BYTES, CALLS, DESCRIPTORS, EXTENTS, FILE_SIZE, FILES}
use Rattle.bd_base.specs.declared.limits.TheConstants.{FRAGMENTS, IMAGE_SIZE, JOURNAL_SIZE, LAST_INDEX, LAST_PLACE, LEAST_BLOCKS}
use Rattle.bd_base.specs.declared.limits.TheConstants.{NAME_SIZE, PART_BLOCKS, PARTS, PERMS, PIECES, POLICY_RULES, POSTS}
use Rattle.bd_base.specs.declared.limits.TheConstants.{FILE_BLOCKS, ITEMS, NAMED_FDS, PROCESSES, SCHEDULES, SCRIPT_SIZE, TURNS, USERS}

-- each limit is this number
pub record LimitsAre : Type 0 where
  pub processes : PROCESSES ≡ 16
  pub calls : CALLS ≡ 256
  pub descriptors : DESCRIPTORS ≡ 8
  pub actors : ACTORS ≡ 33
  pub users : USERS ≡ 2 ^ 32
  pub addresses : ADDRESSES ≡ 32768
  pub named_fds : NAMED_FDS ≡ 256
  pub schedules : SCHEDULES ≡ 4096
  pub items : ITEMS ≡ 64
  pub turns : TURNS ≡ 1000000
  pub call_bytes : CALL_BYTES ≡ 16384
  pub last_place : LAST_PLACE ≡ 2 ^ 40
  pub pieces : PIECES ≡ 5
  pub last_index : LAST_INDEX ≡ 268435459
  pub block_size : BLOCK_SIZE ≡ 4096
  pub blocks : BLOCKS ≡ 16384
  pub least_blocks : LEAST_BLOCKS ≡ 20
  pub image_size : IMAGE_SIZE ≡ 67108864
  pub script_size : SCRIPT_SIZE ≡ 8388608
  pub journal_size : JOURNAL_SIZE ≡ 1073741824
  pub files : FILES ≡ 256
  pub block_records : BLOCK_RECORDS ≡ 16
  pub file_size : FILE_SIZE ≡ 16777216
  pub file_blocks : FILE_BLOCKS ≡ 4096
  pub extents : EXTENTS ≡ 24
  pub name_size : NAME_SIZE ≡ 31
  pub perms : PERMS ≡ 16
  pub policy_rules : POLICY_RULES ≡ 5
  pub parts : PARTS ≡ 8
  pub part_blocks : PART_BLOCKS ≡ 512
  pub most_keys : MOST_KEYS ≡ 1024
  pub fragments : FRAGMENTS ≡ 64
  pub posts : POSTS ≡ 32
