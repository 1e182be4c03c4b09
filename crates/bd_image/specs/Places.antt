-- The layout of an image by its numbers. Everything else names them.
use Rattle.std.specs.Prelude.{◌≡◌, codes}
use Rattle.bd_image.specs.declared.layout.TheConstants.{BITMAP_PLACE, EXTENT_BYTES, EXTENTS_FIELD, HEADER_BYTES}
use Rattle.bd_image.specs.declared.layout.TheConstants.{INODES_PLACE, LEAST_INODES, LEAST_LENGTH, LENGTH_PLACE, MAGIC}
use Rattle.bd_image.specs.declared.layout.TheConstants.{NAME_FIELD, OWNER_FIELD, RECORD_BYTES, RECORDS_PLACE}
use Rattle.bd_image.specs.declared.layout.TheConstants.{SIZE_FIELD, VERSION, VERSION_PLACE}

-- each place and number of the layout is this one
pub record LayoutIs : Type 0 where
  pub magic : MAGIC ≡ codes "BYPDFS01"
  pub version_place : VERSION_PLACE ≡ 8
  pub version : VERSION ≡ 1
  pub length_place : LENGTH_PLACE ≡ 12
  pub inodes_place : INODES_PLACE ≡ 16
  pub header_bytes : HEADER_BYTES ≡ 20
  pub bitmap_place : BITMAP_PLACE ≡ 4096
  pub records_place : RECORDS_PLACE ≡ 8192
  pub record_bytes : RECORD_BYTES ≡ 256
  pub owner_field : OWNER_FIELD ≡ 4
  pub size_field : SIZE_FIELD ≡ 8
  pub name_field : NAME_FIELD ≡ 16
  pub extents_field : EXTENTS_FIELD ≡ 48
  pub extent_bytes : EXTENT_BYTES ≡ 8
  pub least_inodes : LEAST_INODES ≡ 16
  pub least_length : LEAST_LENGTH ≡ 81920
