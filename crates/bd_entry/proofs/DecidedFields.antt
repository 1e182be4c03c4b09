-- Fields of entries and calls are the same or not.
use Rattle.std.specs.Prelude.{nat_eq, cond, get_or}
use Rattle.std.proofs.Common.{◌≡◌, ℕ, List, [], ◌∷◌, Option, refl}
use Rattle.bd_base.specs.declared.reason.Reason.{Reason}
use Rattle.bd_base.specs.declared.reason.Reason.TheVariants as reasons
use Rattle.bd_base.specs.declared.script.How.{How}
use Rattle.bd_base.specs.declared.script.How.TheVariants as hows
use Rattle.bd_base.specs.declared.script.Mode.{Mode}
use Rattle.bd_base.specs.declared.script.Mode.TheVariants.{R, Rw}
use Rattle.bd_base.specs.declared.journal.Way.{Way}
use Rattle.bd_base.specs.declared.journal.Way.TheVariants as ways
use Rattle.bd_base.specs.Pieces.{Piece}
use Rattle.bd_base.proofs.Decided.{Decided, decided-coded, decided-option}

-- ---- modes, hows and ways

abbrev mode_code : Mode → List ℕ
mode_code R = 0 ∷ []
mode_code Rw = 1 ∷ []

abbrev mode_of : List ℕ → Mode
mode_of code = cond (nat_eq (get_or code 0 0) 0) R Rw

mode-coded : (m : Mode) → mode_of (mode_code m) ≡ m
mode-coded R = refl
mode-coded Rw = refl

pub decided-mode : (a b : Mode) → Decided (a ≡ b)
decided-mode a b = decided-coded mode_code mode_of mode-coded a b

abbrev how_code : How → List ℕ
how_code hows.Plain = 0 ∷ []
how_code hows.Direct = 1 ∷ []

abbrev how_of : List ℕ → How
how_of code = cond (nat_eq (get_or code 0 0) 0) hows.Plain hows.Direct

how-coded : (h : How) → how_of (how_code h) ≡ h
how-coded hows.Plain = refl
how-coded hows.Direct = refl

pub decided-how : (a b : How) → Decided (a ≡ b)
decided-how a b = decided-coded how_code how_of how-coded a b

abbrev way_code : Way → List ℕ
way_code ways.Direct = 0 ∷ []
way_code ways.Plain = 1 ∷ []
way_code ways.PastKnown = 2 ∷ []
way_code ways.AfterMiss = 3 ∷ []

abbrev way_of : List ℕ → Way
way_of code =
    let n = get_or code 0 0 in
    cond (nat_eq n 0) ways.Direct (cond (nat_eq n 1) ways.Plain (cond (nat_eq n 2) ways.PastKnown ways.AfterMiss))

way-coded : (w : Way) → way_of (way_code w) ≡ w
way-coded ways.Direct = refl
way-coded ways.Plain = refl
way-coded ways.PastKnown = refl
way-coded ways.AfterMiss = refl

pub decided-way : (a b : Way) → Decided (a ≡ b)
decided-way a b = decided-coded way_code way_of way-coded a b

-- ---- reasons

abbrev reason_code : Reason → List ℕ
reason_code reasons.NoFile = 0 ∷ []
reason_code reasons.Exists = 1 ∷ []
reason_code (reasons.Denied rule) = 2 ∷ rule ∷ []
reason_code reasons.Inodes = 3 ∷ []
reason_code reasons.NoSpace = 4 ∷ []
reason_code reasons.Extents = 5 ∷ []
reason_code reasons.TooBig = 6 ∷ []
reason_code (reasons.OpenBy process fd) = 7 ∷ process ∷ fd ∷ []
reason_code reasons.BadFd = 8 ∷ []
reason_code reasons.ReadOnly = 9 ∷ []
reason_code reasons.FdsFull = 10 ∷ []
reason_code (reasons.KernelOpen process) = 11 ∷ process ∷ []

abbrev reason_of : List ℕ → Reason
reason_of code =
    let n = get_or code 0 0 in
    let first = get_or code 1 0 in
    let second = get_or code 2 0 in
    cond (nat_eq n 0) reasons.NoFile (cond (nat_eq n 1) reasons.Exists (cond (nat_eq n 2) (reasons.Denied first)
    (cond (nat_eq n 3) reasons.Inodes (cond (nat_eq n 4) reasons.NoSpace (cond (nat_eq n 5) reasons.Extents (cond (nat_eq n 6) reasons.TooBig
    (cond (nat_eq n 7) (reasons.OpenBy first second) (cond (nat_eq n 8) reasons.BadFd (cond (nat_eq n 9) reasons.ReadOnly
    (cond (nat_eq n 10) reasons.FdsFull (reasons.KernelOpen first)))))))))))

reason-coded : (r : Reason) → reason_of (reason_code r) ≡ r
reason-coded reasons.NoFile = refl
reason-coded reasons.Exists = refl
reason-coded (reasons.Denied rule) = refl
reason-coded reasons.Inodes = refl
reason-coded reasons.NoSpace = refl
reason-coded reasons.Extents = refl
reason-coded reasons.TooBig = refl
reason-coded (reasons.OpenBy process fd) = refl
reason-coded reasons.BadFd = refl
reason-coded reasons.ReadOnly = refl
reason-coded reasons.FdsFull = refl
reason-coded (reasons.KernelOpen process) = refl

pub decided-reason : (a b : Option Reason) → Decided (a ≡ b)
decided-reason a b = decided-option (λ x y. decided-coded reason_code reason_of reason-coded x y) a b

-- ---- pieces

abbrev piece_code : Piece → List ℕ
piece_code piece = piece.index ∷ piece.range.lo ∷ piece.range.hi ∷ []

abbrev piece_of : List ℕ → Piece
piece_of code = record { index = get_or code 0 0; range = record { lo = get_or code 1 0; hi = get_or code 2 0 } }

pub decided-piece : (a b : Option Piece) → Decided (a ≡ b)
decided-piece a b = decided-option (λ x y. decided-coded piece_code piece_of (λ piece. refl) x y) a b
