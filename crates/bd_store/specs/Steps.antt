-- Steps of a plain store.
use Rattle.std.specs.Prelude.{slice_set}
use Rattle.bd_base.specs.declared.script.Call.{Call}
use Rattle.bd_entry.specs.declared.entry.Entry.{Entry}
use Rattle.bd_entry.specs.Calls.{at_of}
use Rattle.bd_entry.specs.Laws.{IsNextEntry}
use Rattle.bd_entry.specs.Rules.{EntryRule, FitsStore, place_in}
use Rattle.bd_entry.specs.Store.{Store}
use Rattle.bd_kernel.specs.Marks.{noted}
use Rattle.bd_store.specs.Kept.{Kept, bare, marks_at}

-- the entry is the next one of its call, and keeps the rules of the store
pub record IsReady (s : Store) (call : Call) (e : Entry) : Type 0 where
  pub next : IsNextEntry s call e
  pub keeps : (rule : EntryRule) → FitsStore s (place_in s call (at_of e)) e rule

-- what is kept, with all but the marks as in this store
abbrev pub kept_as : Kept → Store → Kept
kept_as k s =
    record { total = s.total; uids = s.uids; files = s.files; bytes = s.bytes; opens = s.opens; marks = k.marks }

-- what is kept after this change of its store
abbrev pub kept_after : Kept → (Store → Store) → Kept
kept_after k change = kept_as k (change (bare k))

-- what is kept after one more entry was noted
abbrev pub with_noted : Kept → Entry → Kept
with_noted k e =
    let process = (at_of e).process in
    record k { marks = slice_set k.marks process (noted e (marks_at k process)) }
