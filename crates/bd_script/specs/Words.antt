-- The first words of lines.
use Rattle.std.specs.Prelude.{ℕ, List, codes}
use Rattle.bd_script.specs.declared.words.Word.{Word}
use Rattle.bd_script.specs.declared.words.Word.TheVariants.{Proc, Open, Create, Read, Write, Truncate, Unlink, Size, Map, Close, RawRead, RawWrite, Schedule}

abbrev pub word_text : Word → List ℕ
word_text Proc = codes "proc"
word_text Open = codes "open"
word_text Create = codes "create"
word_text Read = codes "read"
word_text Write = codes "write"
word_text Truncate = codes "truncate"
word_text Unlink = codes "unlink"
word_text Size = codes "size"
word_text Map = codes "map"
word_text Close = codes "close"
word_text RawRead = codes "raw-read"
word_text RawWrite = codes "raw-write"
word_text Schedule = codes "schedule"
