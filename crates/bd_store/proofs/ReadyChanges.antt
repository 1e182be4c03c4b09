-- An entry that is ready asks of the disk only what holds there.
use Rattle.std.proofs.Common.{ℕ, List, Option, refl, subst, sym}
use Rattle.bd_base.specs.declared.script.Call.{Call}
use Rattle.bd_base.specs.Scripts.{IsCall}
use Rattle.bd_entry.specs.declared.entry.Entry.{Entry}
use Rattle.bd_entry.specs.Calls.{at_of}
use Rattle.bd_entry.specs.Rules.{place_in}
use Rattle.bd_entry.specs.Store.{Store}
use Rattle.bd_entry.proofs.SoundVolumes.{is_of_call}
use Rattle.bd_kernel.specs.Disks.{CanChange, IsDiskOf}
use Rattle.bd_kernel.specs.Marks.{HasPieceOf}
use Rattle.bd_kernel.proofs.DiskEntries.{next_is_sound}
use Rattle.bd_kernel.proofs.DiskEntries as entries
use Rattle.bd_store.specs.Kept.{Kept, Represents, disk_of}
use Rattle.bd_store.specs.Steps.{IsReady}

-- the piece of an entry that is ready is one that a call may have
pub has_piece : (s : Store) (call : Call) (e : Entry) → IsCall call → IsReady s call e → HasPieceOf e
has_piece s call e is_call ready = entries.has_piece (place_in s call (at_of e)) e is_call (is_of_call s call e ready.next)

-- an entry that is ready can change the disk, whatever files are held
pub can_change : (k : Kept) (s : Store) (call : Call) (e : Entry) (held : List (Option ℕ)) → Represents k s → IsCall call → IsReady s call e →
    CanChange (disk_of k held) e
can_change k s call e held is is_call ready =
    let of : IsDiskOf (disk_of k held) s =
    subst (IsDiskOf (disk_of k held)) (sym is.store) (record { total = refl; files = refl; bytes = refl; opens = refl }) in
    entries.can_change (disk_of k held) s (place_in s call (at_of e)) e of (next_is_sound s call e is.valid is_call ready.next ready.keeps)
