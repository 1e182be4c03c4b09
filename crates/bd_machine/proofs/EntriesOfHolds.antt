-- The file of a running call, which its process holds after some turns.
use Rattle.std.proofs.Common.{◌≡◌, ℕ, List, Option, sym, ap, ◌∙◌, subst}
use Rattle.bd_base.specs.declared.journal.At.{At}
use Rattle.bd_entry.specs.declared.entry.Entry.{Entry}
use Rattle.bd_entry.specs.Refusals.{file_of}
use Rattle.bd_entry.specs.Store.{Store}
use Rattle.bd_fs.specs.Files.{Files}
use Rattle.bd_kernel.specs.Disks.{DiskState, IsDiskOf, files_on, table_on}
use Rattle.bd_kernel.specs.Holders.{Table}
use Rattle.bd_kernel.specs.Sights.{place_of, store_of}
use Rattle.bd_kernel.specs.Turns.{AreEntriesOf, IsFileOf, Progress}

-- the store of the files and the descriptors of a disk
pub store_is : (disk : DiskState) (s : Store) → IsDiskOf disk s → store_of (files_on disk) disk.rows s.uids s.bytes s.work ≡ s
store_is disk s is =
    λ i. record {
      total = sym is.total i;
      uids = s.uids;
      files = sym is.files i;
      bytes = s.bytes;
      opens = sym is.opens i;
      work = s.work;
    }

-- what is the file of the call on a disk is so in each store of it
pub file_in_store : (disk : DiskState) (fs : Files) (table : Table) (c other : Progress) (s : Store) (at : At) (before : List Entry) (answer : Option ℕ) →
    fs ≡ files_on disk → table ≡ table_on disk → c ≡ other → IsFileOf fs table c answer → IsDiskOf disk s → other.process ≡ at.process →
    AreEntriesOf other before → answer ≡ file_of s (record { call = other.call; at = at; before = before })
file_in_store disk fs table c other s at before answer files rows same is_file is process_is are =
    let on_disk : IsFileOf (files_on disk) (table_on disk) other answer =
    subst (λ (x : Progress). IsFileOf (files_on disk) (table_on disk) x answer) same
    (subst (λ (t : Table). IsFileOf (files_on disk) t c answer) rows (subst (λ (f : Files). IsFileOf f table c answer) files is_file)) in
    let place : place_of other.call other.process at.call before ≡ record { call = other.call; at = at; before = before } =
    λ i. record { call = other.call; at = record { process = process_is i; call = at.call }; before = before } in
    on_disk s.uids s.bytes s.work at.call before are
    ∙ ap (λ (x : Store). file_of x (place_of other.call other.process at.call before)) (store_is disk s is)
    ∙ ap (file_of s) place
