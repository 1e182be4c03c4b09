-- The laws of replies: each is the contract of a function of src/laws.rt.
use Rattle.std.specs.Prelude.{◌≡◌, ◌≢◌, ℕ, ◌<◌, true, false, Option, None, Some, List, ◌∷◌, ◌++◌, slice_get}
use Rattle.bd_base.specs.declared.journal.At.{At}
use Rattle.bd_base.specs.declared.reason.Reason.{Reason}
use Rattle.bd_base.specs.declared.script.Call.{Call}
use Rattle.bd_base.specs.declared.script.Call.TheVariants.{Read, Write}
use Rattle.bd_base.specs.declared.script.Script.{Script}
use Rattle.bd_base.specs.Pieces.{pieces}
use Rattle.bd_entry.specs.declared.entry.Entry.{Entry}
use Rattle.bd_entry.specs.Calls.{at_of, call_at, entries_of, is_answer_of, same_call}
use Rattle.bd_entry.specs.Texts.{reason_text}
use Rattle.bd_pieces.specs.declared.gathering.PieceBytes.{PieceBytes}
use Rattle.bd_pieces.specs.Gathered.{AreFirstBytes}
use Rattle.bd_report.specs.Replies.{answers_of, end_of, parts_of, piece_reason, read_text, reply_text}
use Rattle.bd_report.specs.Notes.{ends_by_pieces}

-- a journal without an entry of another call tells the same of this one
abbrev pub OtherCallsDoNotMatter : Type 0
OtherCallsDoNotMatter =
    (script : Script) (front back : List Entry) (e : Entry) (at : At) → same_call (at_of e) at ≡ false →
    reply_text script (front ++ e ∷ back) at ≡ reply_text script (front ++ back) at

-- entries that answer different pieces may change places
abbrev pub PiecesComeInAnyOrder : Type 0
PiecesComeInAnyOrder =
    (script : Script) (front back : List Entry) (e f : Entry) (i j : ℕ) (at : At) (call : Call) →
    call_at script at ≡ Some call → ends_by_pieces call ≡ true →
    is_answer_of i e ≡ true → is_answer_of j f ≡ true → i ≢ j →
    reply_text script (front ++ e ∷ f ∷ back) at ≡ reply_text script (front ++ f ∷ e ∷ back) at

-- the reply is that of a read of these bytes, which are those of the first parts
pub record TellsFirstOf (parts : List PieceBytes) (reply : List ℕ) : Type 0 where
  pub bytes : List ℕ
  pub reply_is : reply ≡ read_text bytes
  pub first : AreFirstBytes parts bytes

-- a read that no entry ends alone tells the bytes of its first pieces
abbrev pub ReadsTellFirstPieces : Type 0
ReadsTellFirstPieces =
    (script : Script) (journal : List Entry) (at : At) (fd off len : ℕ) →
    call_at script at ≡ Some (Read fd off len) → end_of (Read fd off len) (entries_of at journal) ≡ None →
    TellsFirstOf (parts_of (pieces off len) (answers_of (Read fd off len) (entries_of at journal)))
    (reply_text script journal at)

-- of these answers, the one of this number is a refusal for this reason, and none before it is a refusal
pub record IsFirstRefusal (answers : List (Option Entry)) (number : ℕ) (reason : Reason) : Type 0 where
  pub answer : Option Entry
  pub stands : slice_get answers number ≡ Some answer
  pub refused : piece_reason answer ≡ Some reason
  pub earlier : (k : ℕ) (other : Option Entry) → k < number → slice_get answers k ≡ Some other →
      piece_reason other ≡ None

-- a write that no entry ends alone, and of which a piece was refused, tells why the first of these pieces was
abbrev pub WritesTellFirstRefusal : Type 0
WritesTellFirstRefusal =
    (script : Script) (journal : List Entry) (at : At) (fd off : ℕ) (bytes : List ℕ) (number : ℕ)
    (reason : Reason) →
    call_at script at ≡ Some (Write fd off bytes) → end_of (Write fd off bytes) (entries_of at journal) ≡ None →
    IsFirstRefusal (answers_of (Write fd off bytes) (entries_of at journal)) number reason →
    reply_text script journal at ≡ reason_text reason
