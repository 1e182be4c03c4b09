-- The fields of each kind of entry: their text, their ranges, and that the text is one line and that of one value alone.
use Rattle.std.proofs.Common.{◌≡◌, ◌≢◌, ℕ, ◌-◌, Bool, false, Option, List, sym, ap, ◌∙◌, arith}
use Rattle.bd_base.specs.Bounds.{Bounds}
use Rattle.bd_base.specs.Names.{IsName}
use Rattle.bd_base.specs.declared.journal.At.{At}
use Rattle.bd_base.specs.declared.journal.Found.{Found}
use Rattle.bd_base.specs.declared.journal.Way.{Way}
use Rattle.bd_base.specs.declared.limits.TheConstants.{BLOCKS, DESCRIPTORS, FILES, FILE_SIZE, LAST_INDEX, PARTS, PIECES, PROCESSES}
use Rattle.bd_base.specs.declared.reason.Reason.{Reason}
use Rattle.bd_base.specs.declared.script.How.{How}
use Rattle.bd_base.specs.declared.script.Mode.{Mode}
use Rattle.bd_blocks.specs.Runs.{runs_text}
use Rattle.bd_blocks.specs.Texts.{HasFirst, HasNoFirst, has_byte, name_text, number_text, optional_text}
use Rattle.bd_blocks.specs.Words.{direction_text, mode_and_how_text, way_text}
use Rattle.bd_blocks.specs.declared.text.TheConstants.{LF}
use Rattle.bd_blocks.proofs.Spellings.{BothFit, Every, IsLine, NoText, direction-field, fewer-line, first-unique, front_number-unique, mode_and_how-line, name-field, no-pair, no-rest, number-field, optional-field, pair-line, pair_text, runs-line, way-field}
use Rattle.bd_entry.specs.Calls.{at_of}
use Rattle.bd_entry.specs.Ranges.{IsBytes, IsFound, IsInRange, IsOptional, IsReason}
use Rattle.bd_entry.specs.Reading.{HasNoRangeFirst, HasNoTargetFirst, HasRangeFirst, HasTargetFirst, IsUpTo, target_text}
use Rattle.bd_entry.specs.Texts.{fields_text, found_text, reason_text, word_of}
use Rattle.bd_entry.specs.declared.entry.Entry.{Entry}
use Rattle.bd_entry.specs.declared.entry.Entry.TheVariants.{Opened, Created, Attached, Mapped, Cleared, Detached, Access, Missed, Extended, Released, Sized, SizeRead, Closed, Unlinked, Refused}
use Rattle.bd_entry.specs.declared.limits.TheConstants.{ASKED_PERMS}
use Rattle.bd_entry.specs.declared.read.kinds.Target.{Target}
use Rattle.bd_entry.specs.declared.words.Word.{Word}
use Rattle.bd_entry.specs.declared.words.Word.TheVariants as word
use Rattle.bd_entry.proofs.Fields.{RangedFit, below-field, found-line, no-ranged, no-ranged_rest, range-unique, ranged-line, ranged_text, reason-line, upto-field}

-- the ranges of the numbers that many kinds have
abbrev pub IsFile : ℕ → Type 0
IsFile = IsUpTo (FILES - 1)

abbrev pub IsFd : ℕ → Type 0
IsFd = IsUpTo (DESCRIPTORS - 1)

-- a file, a descriptor, a mode and a way
abbrev pub opened_text : ℕ × (ℕ × (Mode × How)) → List ℕ
opened_text = pair_text number_text (pair_text number_text mode_and_how_text)

abbrev pub OpenedFit : ℕ × (ℕ × (Mode × How)) → Type 0
OpenedFit = BothFit IsFile (BothFit IsFd (BothFit (Every {A = Mode}) (Every {A = How})))

opened-line : IsLine opened_text OpenedFit
opened-line =
    pair-line number_text IsFile (pair_text number_text mode_and_how_text) (BothFit IsFd (BothFit Every Every)) (upto-field (FILES - 1))
    (pair-line number_text IsFd mode_and_how_text (BothFit Every Every) (upto-field (DESCRIPTORS - 1)) mode_and_how-line)

-- a file, a name and permissions
abbrev pub created_text : ℕ × (List ℕ × ℕ) → List ℕ
created_text = pair_text number_text (pair_text name_text number_text)

abbrev pub CreatedFit : ℕ × (List ℕ × ℕ) → Type 0
CreatedFit = BothFit IsFile (BothFit IsName (IsUpTo (ASKED_PERMS - 1)))

created-line : IsLine created_text CreatedFit
created-line =
    pair-line number_text IsFile (pair_text name_text number_text) (BothFit IsName (IsUpTo (ASKED_PERMS - 1))) (upto-field (FILES - 1))
    (pair-line name_text IsName number_text (IsUpTo (ASKED_PERMS - 1)) name-field (upto-field (ASKED_PERMS - 1)).line)

-- two numbers, of which nothing more is asked
abbrev pub two_text : ℕ × ℕ → List ℕ
two_text = pair_text number_text number_text

two-line : IsLine two_text (BothFit (Every {A = ℕ}) (Every {A = ℕ}))
two-line = pair-line number_text Every number_text Every number-field number-field.line

-- three numbers
abbrev pub three_text : ℕ × (ℕ × ℕ) → List ℕ
three_text = pair_text number_text two_text

three-line : IsLine three_text (BothFit (Every {A = ℕ}) (BothFit (Every {A = ℕ}) (Every {A = ℕ})))
three-line = pair-line number_text Every two_text (BothFit Every Every) number-field two-line

-- the ranges of three numbers
abbrev pub ThreeFit : ℕ → ℕ → ℕ → ℕ × (ℕ × ℕ) → Type 0
ThreeFit a b n = BothFit (IsUpTo a) (BothFit (IsUpTo b) (IsUpTo n))

-- a piece and what was found
abbrev pub missed_text : ℕ × Found → List ℕ
missed_text = pair_text number_text found_text

abbrev pub MissedFit : ℕ × Found → Type 0
MissedFit = BothFit (IsUpTo (PIECES - 1)) IsFound

missed-line : IsLine missed_text MissedFit
missed-line = pair-line number_text (IsUpTo (PIECES - 1)) found_text IsFound (upto-field (PIECES - 1)) found-line

-- a file, a size and a block
abbrev pub extended_text : ℕ × (ℕ × Option ℕ) → List ℕ
extended_text = pair_text number_text (pair_text number_text optional_text)

abbrev pub ExtendedFit : ℕ × (ℕ × Option ℕ) → Type 0
ExtendedFit = BothFit IsFile (BothFit (IsUpTo FILE_SIZE) (IsOptional BLOCKS))

extended-line : IsLine extended_text ExtendedFit
extended-line =
    pair-line number_text IsFile (pair_text number_text optional_text) (BothFit (IsUpTo FILE_SIZE) (IsOptional BLOCKS)) (upto-field (FILES - 1))
    (pair-line number_text (IsUpTo FILE_SIZE) optional_text (IsOptional BLOCKS) (upto-field FILE_SIZE) (below-field BLOCKS).line)

-- a piece and a reason
abbrev pub refused_text : Option ℕ × Reason → List ℕ
refused_text = pair_text optional_text reason_text

abbrev pub RefusedFit : Option ℕ × Reason → Type 0
RefusedFit = BothFit (IsOptional PIECES) IsReason

refused-line : IsLine refused_text RefusedFit
refused-line = pair-line optional_text (IsOptional PIECES) reason_text IsReason (below-field PIECES) reason-line

-- what an access tells, with what follows its way
abbrev pub Told : Type 0 → Type 0
Told B = ℕ × (ℕ × (ℕ × (ℕ × (Option ℕ × (Bounds × (Bool × (Way × B)))))))

-- from the direction on, from the range on, from the block on
abbrev pub done_text : {B : Type 0} → (B → List ℕ) → Bool × (Way × B) → List ℕ
done_text {B} g = pair_text direction_text (pair_text way_text g)

abbrev pub DoneFit : {B : Type 0} → (B → Type 0) → Bool × (Way × B) → Type 0
DoneFit {B} G = BothFit (Every {A = Bool}) (BothFit (Every {A = Way}) G)

abbrev pub placed_text : {B : Type 0} → (B → List ℕ) → Option ℕ × (Bounds × (Bool × (Way × B))) → List ℕ
placed_text {B} g = pair_text optional_text (ranged_text (done_text g))

abbrev pub PlacedFit : {B : Type 0} → (B → Type 0) → Option ℕ × (Bounds × (Bool × (Way × B))) → Type 0
PlacedFit {B} G = BothFit (IsOptional BLOCKS) (RangedFit (DoneFit G))

abbrev pub access_text : {B : Type 0} → (B → List ℕ) → Told B → List ℕ
access_text {B} g = pair_text number_text (pair_text number_text (pair_text number_text (pair_text number_text (placed_text g))))

abbrev pub AccessFit : {B : Type 0} → (B → Type 0) → Told B → Type 0
AccessFit {B} G =
    BothFit (IsUpTo (PIECES - 1)) (BothFit IsFd (BothFit IsFile (BothFit (IsUpTo LAST_INDEX) (PlacedFit G))))

placed-line : {B : Type 0} (g : B → List ℕ) (G : B → Type 0) → IsLine g G → IsLine (placed_text g) (PlacedFit G)
placed-line {B} g G line =
    pair-line optional_text (IsOptional BLOCKS) (ranged_text (done_text g)) (RangedFit (DoneFit G)) (below-field BLOCKS)
    (ranged-line (done_text g) (DoneFit G)
    (pair-line direction_text Every (pair_text way_text g) (BothFit Every G) direction-field
    (pair-line way_text Every g G way-field line)))

number-before : {B : Type 0} (most : ℕ) (g : B → List ℕ) (G : B → Type 0) → IsLine g G → IsLine (pair_text number_text g) (BothFit (IsUpTo most) G)
number-before {B} most g G line = pair-line number_text (IsUpTo most) g G (upto-field most) line

access-line : IsLine (access_text runs_text) (AccessFit IsBytes)
access-line =
    number-before (PIECES - 1) _ _ (number-before (DESCRIPTORS - 1) _ _ (number-before (FILES - 1) _ _ (number-before LAST_INDEX _ _
    (placed-line runs_text IsBytes (fewer-line runs_text _ IsBytes (λ bytes is. is.0) runs-line)))))

-- no entry of this word has these fields
abbrev pub HasNoEntry : Word → List ℕ → Type 0
HasNoEntry w text = (e : Entry) → word_of e ≡ w → IsInRange e → text ≢ fields_text e

-- a text with no number in front, and one where no such text follows the number
no-number : {B : Type 0} (most : ℕ) (g : B → List ℕ) (G : B → Type 0) (text : List ℕ) → HasNoFirst number_text (IsUpTo most) text
    → NoText (pair_text number_text g) (BothFit (IsUpTo most) G) text
no-number {B} most g G text none = no-pair number_text (IsUpTo most) g G text none

after-number : {B : Type 0} (most : ℕ) (g : B → List ℕ) (G : B → Type 0) (n : ℕ) (text rest : List ℕ)
    → HasFirst number_text (IsUpTo most) text n rest → NoText g G rest → NoText (pair_text number_text g) (BothFit (IsUpTo most) G) text
after-number {B} most g G n text rest first none = no-rest number_text (IsUpTo most) g G (upto-field most) n text rest first none

opened-none : (text : List ℕ) → NoText opened_text OpenedFit text → HasNoEntry word.Opened text
opened-none text none (Opened at file fd mode how) w is same =
    none (file, (fd, (mode, how))) (omega (arith, is), (omega (arith, is), (tt, tt))) same
opened-none text none e w is same = cc w

pub opened-no_fd : (file : ℕ) (text rest : List ℕ) → HasFirst number_text IsFile text file rest → HasNoFirst number_text IsFd rest
    → HasNoEntry word.Opened text
opened-no_fd file text rest first none =
    let Opening : Mode × How → Type 0 = BothFit (Every {A = Mode}) (Every {A = How}) in
    opened-none text (after-number (FILES - 1) (pair_text number_text mode_and_how_text) (BothFit IsFd Opening) file text rest first
    (no-number (DESCRIPTORS - 1) mode_and_how_text Opening rest none))

pub opened-no_way : (file fd : ℕ) (text rest last : List ℕ) → HasFirst number_text IsFile text file rest
    → HasFirst number_text IsFd rest fd last → NoText mode_and_how_text (Every {A = Mode × How}) last → HasNoEntry word.Opened text
opened-no_way file fd text rest last first second none =
    let Opening : Mode × How → Type 0 = BothFit (Every {A = Mode}) (Every {A = How}) in
    opened-none text (after-number (FILES - 1) (pair_text number_text mode_and_how_text) (BothFit IsFd Opening) file text rest first
    (after-number (DESCRIPTORS - 1) mode_and_how_text Opening fd rest last second (λ p _. none p tt)))

created-none : (text : List ℕ) → NoText created_text CreatedFit text → HasNoEntry word.Created text
created-none text none (Created at file name perms) w is same =
    none (file, (name, perms)) (omega (arith, is), (is.1, omega (arith, is))) same
created-none text none e w is same = cc w

-- the permissions that a call may ask for
abbrev pub IsPerms : ℕ → Type 0
IsPerms = IsUpTo (ASKED_PERMS - 1)

pub created-no_name : (file : ℕ) (text rest : List ℕ) → HasFirst number_text IsFile text file rest → HasNoFirst name_text IsName rest
    → HasNoEntry word.Created text
created-no_name file text rest first none =
    created-none text (after-number (FILES - 1) (pair_text name_text number_text) (BothFit IsName IsPerms) file text rest first
    (no-pair name_text IsName number_text IsPerms rest none))

pub created-no_perms : (file : ℕ) (name text rest last : List ℕ) → HasFirst number_text IsFile text file rest
    → HasFirst name_text IsName rest name last → NoText number_text IsPerms last → HasNoEntry word.Created text
created-no_perms file name text rest last first second none =
    created-none text (after-number (FILES - 1) (pair_text name_text number_text) (BothFit IsName IsPerms) file text rest first
    (no-rest name_text IsName number_text IsPerms name-field name rest last second none))

pub attached-none : (text : List ℕ) → NoText two_text (BothFit IsFd (IsUpTo (PARTS - 1))) text → HasNoEntry word.Attached text
attached-none text none (Attached at fd part) w is same = none (fd, part) (omega (arith, is), omega (arith, is)) same
attached-none text none e w is same = cc w

pub mapped-none : (text : List ℕ) → NoText two_text (BothFit IsFd (IsUpTo PARTS)) text → HasNoEntry word.Mapped text
mapped-none text none (Mapped at fd count) w is same = none (fd, count) (omega (arith, is), is.1) same
mapped-none text none e w is same = cc w

pub sized-none : (text : List ℕ) → NoText two_text (BothFit IsFd (IsUpTo FILE_SIZE)) text → HasNoEntry word.Sized text
sized-none text none (Sized at fd size) w is same = none (fd, size) (omega (arith, is), is.1) same
sized-none text none e w is same = cc w

pub size-none : (text : List ℕ) → NoText two_text (BothFit IsFd (IsUpTo FILE_SIZE)) text → HasNoEntry word.Size text
size-none text none (SizeRead at fd size) w is same = none (fd, size) (omega (arith, is), is.1) same
size-none text none e w is same = cc w

-- after a first number, two are missing
pub three-none : (a b n m : ℕ) (text rest : List ℕ) → HasFirst number_text (IsUpTo a) text m rest
    → NoText two_text (BothFit (IsUpTo b) (IsUpTo n)) rest → NoText three_text (ThreeFit a b n) text
three-none a b n m text rest first none = after-number a two_text (BothFit (IsUpTo b) (IsUpTo n)) m text rest first none

pub cleared-none : (text : List ℕ) → NoText three_text (ThreeFit (PROCESSES - 1) (DESCRIPTORS - 1) (PARTS - 1)) text
    → HasNoEntry word.Cleared text
cleared-none text none (Cleared at owner fd part) w is same =
    none (owner, (fd, part)) (omega (arith, is), (omega (arith, is), omega (arith, is))) same
cleared-none text none e w is same = cc w

pub detached-none : (text : List ℕ) → NoText three_text (ThreeFit (PROCESSES - 1) (DESCRIPTORS - 1) (PARTS - 1)) text
    → HasNoEntry word.Detached text
detached-none text none (Detached at owner fd part) w is same =
    none (owner, (fd, part)) (omega (arith, is), (omega (arith, is), omega (arith, is))) same
detached-none text none e w is same = cc w

pub released-none : (text : List ℕ) → NoText three_text (ThreeFit (FILES - 1) LAST_INDEX (BLOCKS - 1)) text → HasNoEntry word.Released text
released-none text none (Released at file index block) w is same =
    none (file, (index, block)) (omega (arith, is), (is.1, omega (arith, is))) same
released-none text none e w is same = cc w

pub missed-no_found : (piece : ℕ) (text rest : List ℕ) → HasFirst number_text (IsUpTo (PIECES - 1)) text piece rest
    → NoText found_text IsFound rest → HasNoEntry word.Missed text
missed-no_found piece text rest first none (Missed at other found) w is same =
    after-number (PIECES - 1) found_text IsFound piece text rest first none (other, found) (omega (arith, is), is.1) same
missed-no_found piece text rest first none e w is same = cc w

extended-none : (text : List ℕ) → NoText extended_text ExtendedFit text → HasNoEntry word.Extended text
extended-none text none (Extended at file to block) w is same =
    none (file, (to, block)) (omega (arith, is), (is.1, is.2)) same
extended-none text none e w is same = cc w

pub extended-no_size : (file : ℕ) (text rest : List ℕ) → HasFirst number_text IsFile text file rest
    → HasNoFirst number_text (IsUpTo FILE_SIZE) rest → HasNoEntry word.Extended text
extended-no_size file text rest first none =
    extended-none text (after-number (FILES - 1) (pair_text number_text optional_text) (BothFit (IsUpTo FILE_SIZE) (IsOptional BLOCKS))
    file text rest first (no-number FILE_SIZE optional_text (IsOptional BLOCKS) rest none))

pub extended-no_block : (file to : ℕ) (text rest last : List ℕ) → HasFirst number_text IsFile text file rest
    → HasFirst number_text (IsUpTo FILE_SIZE) rest to last → NoText optional_text (IsOptional BLOCKS) last → HasNoEntry word.Extended text
extended-no_block file to text rest last first second none =
    extended-none text (after-number (FILES - 1) (pair_text number_text optional_text) (BothFit (IsUpTo FILE_SIZE) (IsOptional BLOCKS))
    file text rest first (after-number FILE_SIZE optional_text (IsOptional BLOCKS) to rest last second none))

pub refused-no_reason : (piece : Option ℕ) (text rest : List ℕ) → HasFirst optional_text (IsOptional PIECES) text piece rest
    → NoText reason_text IsReason rest → HasNoEntry word.Refused text
refused-no_reason piece text rest first none (Refused at other reason) w is same =
    no-rest optional_text (IsOptional PIECES) reason_text IsReason (below-field PIECES) piece text rest first none (other, reason) (is.0, is.1) same
refused-no_reason piece text rest first none e w is same = cc w

-- an access whose front or whose bytes have no reading
access-target : ℕ → ℕ → ℕ → ℕ → Option ℕ → Bounds → Bool → Way → Target
access-target piece fd file index block range wrote way =
    record { piece = piece; fd = fd; file = file; index = index; block = block; range = range; wrote = wrote; way = way }

pub access-no_target : (text : List ℕ) → HasNoTargetFirst text → HasNoEntry word.Access text
unfolding access-target
access-no_target text none (Access at piece fd file index block range wrote way bytes) w is same =
    none (access-target piece fd file index block range wrote way) (runs_text bytes) (is.0, is.1, is.2, is.3, is.4, is.5) same
access-no_target text none e w is same = cc w

-- the fields before its bytes, each with what follows it, whatever the rest is
abbrev Rest : List ℕ → Type 0
Rest = Every {A = List ℕ}

abbrev from_way : Way × List ℕ → List ℕ
from_way = pair_text way_text name_text

abbrev FromWay : Way × List ℕ → Type 0
FromWay = BothFit (Every {A = Way}) Rest

abbrev from_direction : Bool × (Way × List ℕ) → List ℕ
from_direction = pair_text direction_text from_way

abbrev FromDirection : Bool × (Way × List ℕ) → Type 0
FromDirection = BothFit (Every {A = Bool}) FromWay

abbrev from_range : Bounds × (Bool × (Way × List ℕ)) → List ℕ
from_range = ranged_text from_direction

abbrev FromRange : Bounds × (Bool × (Way × List ℕ)) → Type 0
FromRange = RangedFit FromDirection

abbrev from_block : Option ℕ × (Bounds × (Bool × (Way × List ℕ))) → List ℕ
from_block = pair_text optional_text from_range

abbrev FromBlock : Option ℕ × (Bounds × (Bool × (Way × List ℕ))) → Type 0
FromBlock = BothFit (IsOptional BLOCKS) FromRange

abbrev from_index : ℕ × (Option ℕ × (Bounds × (Bool × (Way × List ℕ)))) → List ℕ
from_index = pair_text number_text from_block

abbrev FromIndex : ℕ × (Option ℕ × (Bounds × (Bool × (Way × List ℕ)))) → Type 0
FromIndex = BothFit (IsUpTo LAST_INDEX) FromBlock

abbrev from_file : ℕ × (ℕ × (Option ℕ × (Bounds × (Bool × (Way × List ℕ))))) → List ℕ
from_file = pair_text number_text from_index

abbrev FromFile : ℕ × (ℕ × (Option ℕ × (Bounds × (Bool × (Way × List ℕ))))) → Type 0
FromFile = BothFit IsFile FromIndex

abbrev from_fd : ℕ × (ℕ × (ℕ × (Option ℕ × (Bounds × (Bool × (Way × List ℕ)))))) → List ℕ
from_fd = pair_text number_text from_file

abbrev FromFd : ℕ × (ℕ × (ℕ × (Option ℕ × (Bounds × (Bool × (Way × List ℕ)))))) → Type 0
FromFd = BothFit IsFd FromFile

-- where no fields follow the piece, no target is in front
target-none : (piece : ℕ) (text rest : List ℕ) → HasFirst number_text (IsUpTo (PIECES - 1)) text piece rest → NoText from_fd FromFd rest
    → HasNoTargetFirst text
target-none piece text rest first none t last is same =
    after-number (PIECES - 1) from_fd FromFd piece text rest first none
    (t.piece, (t.fd, (t.file, (t.index, (t.block, (t.range, (t.wrote, (t.way, last))))))))
    (omega (arith, is), (omega (arith, is), (omega (arith, is), (is.3, (is.4, (is.5, (tt, (tt, tt)))))))) same

-- what was read in front, as far as the block
pub record HasFront (text : List ℕ) : Type 0 where
  pub piece : ℕ
  pub fd : ℕ
  pub after_piece : List ℕ
  pub after_fd : List ℕ
  pub has_piece : HasFirst number_text (IsUpTo (PIECES - 1)) text piece after_piece
  pub has_fd : HasFirst number_text IsFd after_piece fd after_fd

pub record HasIndex (text : List ℕ) : Type 0 where
  pub file : ℕ
  pub index : ℕ
  pub after_file : List ℕ
  pub after_index : List ℕ
  pub has_file : HasFirst number_text IsFile text file after_file
  pub has_index : HasFirst number_text (IsUpTo LAST_INDEX) after_file index after_index

pub target-no_fd : (piece : ℕ) (text rest : List ℕ) → HasFirst number_text (IsUpTo (PIECES - 1)) text piece rest
    → HasNoFirst number_text IsFd rest → HasNoTargetFirst text
target-no_fd piece text rest first none = target-none piece text rest first (no-number (DESCRIPTORS - 1) from_file FromFile rest none)

after-fd : (text : List ℕ) (f : HasFront text) → NoText from_file FromFile f.after_fd → HasNoTargetFirst text
after-fd text f none =
    target-none f.piece text f.after_piece f.has_piece (after-number (DESCRIPTORS - 1) from_file FromFile f.fd f.after_piece f.after_fd f.has_fd none)

pub target-no_file : (text : List ℕ) (f : HasFront text) → HasNoFirst number_text IsFile f.after_fd → HasNoTargetFirst text
target-no_file text f none = after-fd text f (no-number (FILES - 1) from_index FromIndex f.after_fd none)

pub target-no_index : (text : List ℕ) (f : HasFront text) (file : ℕ) (rest : List ℕ) → HasFirst number_text IsFile f.after_fd file rest
    → HasNoFirst number_text (IsUpTo LAST_INDEX) rest → HasNoTargetFirst text
target-no_index text f file rest first none =
    after-fd text f (after-number (FILES - 1) from_index FromIndex file f.after_fd rest first (no-number LAST_INDEX from_block FromBlock rest none))

after-index : (text : List ℕ) (f : HasFront text) (i : HasIndex f.after_fd) → NoText from_block FromBlock i.after_index → HasNoTargetFirst text
after-index text f i none =
    after-fd text f (after-number (FILES - 1) from_index FromIndex i.file f.after_fd i.after_file i.has_file
    (after-number LAST_INDEX from_block FromBlock i.index i.after_file i.after_index i.has_index none))

pub target-no_block : (text : List ℕ) (f : HasFront text) (i : HasIndex f.after_fd)
    → HasNoFirst optional_text (IsOptional BLOCKS) i.after_index → HasNoTargetFirst text
target-no_block text f i none = after-index text f i (no-pair optional_text (IsOptional BLOCKS) from_range FromRange i.after_index none)

after-block : (text : List ℕ) (f : HasFront text) (i : HasIndex f.after_fd) (block : Option ℕ) (rest : List ℕ)
    → HasFirst optional_text (IsOptional BLOCKS) i.after_index block rest → NoText from_range FromRange rest → HasNoTargetFirst text
after-block text f i block rest first none =
    after-index text f i (no-rest optional_text (IsOptional BLOCKS) from_range FromRange (below-field BLOCKS) block i.after_index rest first none)

pub target-no_range : (text : List ℕ) (f : HasFront text) (i : HasIndex f.after_fd) (block : Option ℕ) (rest : List ℕ)
    → HasFirst optional_text (IsOptional BLOCKS) i.after_index block rest → HasNoRangeFirst rest → HasNoTargetFirst text
target-no_range text f i block rest first none = after-block text f i block rest first (no-ranged from_direction FromDirection rest none)

pub target-no_direction : (text : List ℕ) (f : HasFront text) (i : HasIndex f.after_fd) (block : Option ℕ) (r : Bounds) (rest last : List ℕ)
    → HasFirst optional_text (IsOptional BLOCKS) i.after_index block rest → HasRangeFirst rest r last
    → HasNoFirst direction_text Every last → HasNoTargetFirst text
target-no_direction text f i block r rest last first second none =
    after-block text f i block rest first (no-ranged_rest from_direction FromDirection r rest last second
    (no-pair direction_text Every from_way FromWay last none))

pub target-no_way : (text : List ℕ) (f : HasFront text) (i : HasIndex f.after_fd) (block : Option ℕ) (r : Bounds) (wrote : Bool) (rest last end : List ℕ)
    → HasFirst optional_text (IsOptional BLOCKS) i.after_index block rest → HasRangeFirst rest r last
    → HasFirst direction_text Every last wrote end → HasNoFirst way_text Every end → HasNoTargetFirst text
target-no_way text f i block r wrote rest last end first second third none =
    after-block text f i block rest first (no-ranged_rest from_direction FromDirection r rest last second
    (no-rest direction_text Every from_way FromWay direction-field wrote last end third (no-pair way_text Every name_text Rest end none)))

-- after a target that was read come the bytes of its entry
pub access-no_bytes : (t : Target) (text rest : List ℕ) → HasTargetFirst text t rest → NoText runs_text IsBytes rest → HasNoEntry word.Access text
access-no_bytes t text rest first none (Access at piece fd file index block range wrote way bytes) w is same =
    let fields : target_text t rest ≡ _ = sym first.1 ∙ same in
    let one = front_number-unique t.piece piece _ _ fields in
    let two = front_number-unique t.fd fd _ _ one.1 in
    let three = front_number-unique t.file file _ _ two.1 in
    let four = front_number-unique t.index index _ _ three.1 in
    let five = first-unique optional_text Every optional-field t.block block _ _ tt tt four.1 in
    let six = range-unique t.range range _ _ five.1 in
    let seven = first-unique direction_text Every direction-field t.wrote wrote _ _ tt tt six.1 in
    let eight = first-unique way_text Every way-field t.way way _ _ tt tt seven.1 in
    none bytes is.6 eight.1
access-no_bytes t text rest first none e w is same = cc w

-- the fields of an entry are on one line
pub fields-one_line : (e : Entry) → IsInRange e → has_byte LF (fields_text e) ≡ false
fields-one_line (Opened at file fd mode how) is =
    opened-line.one_line (file, (fd, (mode, how))) (omega (arith, is), (omega (arith, is), (tt, tt)))
fields-one_line (Created at file name perms) is = created-line.one_line (file, (name, perms)) (omega (arith, is), (is.1, omega (arith, is)))
fields-one_line (Attached at fd part) is = two-line.one_line (fd, part) (tt, tt)
fields-one_line (Mapped at fd count) is = two-line.one_line (fd, count) (tt, tt)
fields-one_line (Cleared at owner fd part) is = three-line.one_line (owner, (fd, part)) (tt, (tt, tt))
fields-one_line (Detached at owner fd part) is = three-line.one_line (owner, (fd, part)) (tt, (tt, tt))
fields-one_line (Access at piece fd file index block range wrote way bytes) is =
    access-line.one_line (piece, (fd, (file, (index, (block, (range, (wrote, (way, bytes))))))))
    (omega (arith, is), (omega (arith, is), (omega (arith, is), (is.3, (is.4, (is.5, (tt, (tt, is.6))))))))
fields-one_line (Missed at piece found) is = missed-line.one_line (piece, found) (omega (arith, is), is.1)
fields-one_line (Extended at file to block) is = extended-line.one_line (file, (to, block)) (omega (arith, is), (omega (arith, is), is.2))
fields-one_line (Released at file index block) is = three-line.one_line (file, (index, block)) (tt, (tt, tt))
fields-one_line (Sized at fd size) is = two-line.one_line (fd, size) (tt, tt)
fields-one_line (SizeRead at fd size) is = two-line.one_line (fd, size) (tt, tt)
fields-one_line (Closed at fd) is = number-field.line.one_line fd tt
fields-one_line (Unlinked at file) is = number-field.line.one_line file tt
fields-one_line (Refused at piece reason) is = refused-line.one_line (piece, reason) (is.0, is.1)

both : {A B D : Type 0} (make : A → B → D) {a a' : A} {b b' : B} → a ≡ a' → b ≡ b' → make a b ≡ make a' b'
both {A} {B} {D} make {a} {a'} {b} {b'} first second = ap (λ (x : A). make x b) first ∙ ap (make a') second

-- entries of the same call and word are the same where their fields are
pub same_kind : (e f : Entry) → word_of e ≡ word_of f → at_of e ≡ at_of f → IsInRange e → IsInRange f → fields_text e ≡ fields_text f
    → e ≡ f
same_kind (Opened at file fd mode how) (Opened at' file' fd' mode' how') w call is other same =
    both (λ (a : At) (p : ℕ × (ℕ × (Mode × How))). Opened a p.0 p.1.0 p.1.1.0 p.1.1.1) call
    (opened-line.injective (file, (fd, (mode, how))) (file', (fd', (mode', how')))
    (omega (arith, is), (omega (arith, is), (tt, tt))) (omega (arith, other), (omega (arith, other), (tt, tt))) same)
same_kind (Created at file name perms) (Created at' file' name' perms') w call is other same =
    both (λ (a : At) (p : ℕ × (List ℕ × ℕ)). Created a p.0 p.1.0 p.1.1) call
    (created-line.injective (file, (name, perms)) (file', (name', perms'))
    (omega (arith, is), (is.1, omega (arith, is))) (omega (arith, other), (other.1, omega (arith, other))) same)
same_kind (Attached at fd part) (Attached at' fd' part') w call is other same =
    both (λ (a : At) (p : ℕ × ℕ). Attached a p.0 p.1) call (two-line.injective (fd, part) (fd', part') (tt, tt) (tt, tt) same)
same_kind (Mapped at fd count) (Mapped at' fd' count') w call is other same =
    both (λ (a : At) (p : ℕ × ℕ). Mapped a p.0 p.1) call (two-line.injective (fd, count) (fd', count') (tt, tt) (tt, tt) same)
same_kind (Cleared at owner fd part) (Cleared at' owner' fd' part') w call is other same =
    both (λ (a : At) (p : ℕ × (ℕ × ℕ)). Cleared a p.0 p.1.0 p.1.1) call
    (three-line.injective (owner, (fd, part)) (owner', (fd', part')) (tt, (tt, tt)) (tt, (tt, tt)) same)
same_kind (Detached at owner fd part) (Detached at' owner' fd' part') w call is other same =
    both (λ (a : At) (p : ℕ × (ℕ × ℕ)). Detached a p.0 p.1.0 p.1.1) call
    (three-line.injective (owner, (fd, part)) (owner', (fd', part')) (tt, (tt, tt)) (tt, (tt, tt)) same)
same_kind (Access at piece fd file index block range wrote way bytes)
    (Access at' piece' fd' file' index' block' range' wrote' way' bytes') w call is other same =
    both (λ (a : At) (p : Told (List ℕ)).
    Access a p.0 p.1.0 p.1.1.0 p.1.1.1.0 p.1.1.1.1.0 p.1.1.1.1.1.0 p.1.1.1.1.1.1.0 p.1.1.1.1.1.1.1.0 p.1.1.1.1.1.1.1.1) call
    (access-line.injective (piece, (fd, (file, (index, (block, (range, (wrote, (way, bytes))))))))
    (piece', (fd', (file', (index', (block', (range', (wrote', (way', bytes'))))))))
    (omega (arith, is), (omega (arith, is), (omega (arith, is), (is.3, (is.4, (is.5, (tt, (tt, is.6))))))))
    (omega (arith, other), (omega (arith, other), (omega (arith, other), (other.3, (other.4, (other.5, (tt, (tt, other.6)))))))) same)
same_kind (Missed at piece found) (Missed at' piece' found') w call is other same =
    both (λ (a : At) (p : ℕ × Found). Missed a p.0 p.1) call
    (missed-line.injective (piece, found) (piece', found') (omega (arith, is), is.1) (omega (arith, other), other.1) same)
same_kind (Extended at file to block) (Extended at' file' to' block') w call is other same =
    both (λ (a : At) (p : ℕ × (ℕ × Option ℕ)). Extended a p.0 p.1.0 p.1.1) call
    (extended-line.injective (file, (to, block)) (file', (to', block'))
    (omega (arith, is), (omega (arith, is), is.2)) (omega (arith, other), (omega (arith, other), other.2)) same)
same_kind (Released at file index block) (Released at' file' index' block') w call is other same =
    both (λ (a : At) (p : ℕ × (ℕ × ℕ)). Released a p.0 p.1.0 p.1.1) call
    (three-line.injective (file, (index, block)) (file', (index', block')) (tt, (tt, tt)) (tt, (tt, tt)) same)
same_kind (Sized at fd size) (Sized at' fd' size') w call is other same =
    both (λ (a : At) (p : ℕ × ℕ). Sized a p.0 p.1) call (two-line.injective (fd, size) (fd', size') (tt, tt) (tt, tt) same)
same_kind (SizeRead at fd size) (SizeRead at' fd' size') w call is other same =
    both (λ (a : At) (p : ℕ × ℕ). SizeRead a p.0 p.1) call (two-line.injective (fd, size) (fd', size') (tt, tt) (tt, tt) same)
same_kind (Closed at fd) (Closed at' fd') w call is other same =
    both (λ (a : At) (n : ℕ). Closed a n) call (number-field.line.injective fd fd' tt tt same)
same_kind (Unlinked at file) (Unlinked at' file') w call is other same =
    both (λ (a : At) (n : ℕ). Unlinked a n) call (number-field.line.injective file file' tt tt same)
same_kind (Refused at piece reason) (Refused at' piece' reason') w call is other same =
    both (λ (a : At) (p : Option ℕ × Reason). Refused a p.0 p.1) call
    (refused-line.injective (piece, reason) (piece', reason') (is.0, is.1) (other.0, other.1) same)
same_kind e f w call is other same = cc w
