-- Reasons with numbers, and without.
use Rattle.std.specs.Prelude.{Option, None, Some, codes}
use Rattle.std.proofs.Common.{◌≡◌, ◌≢◌, ℕ, ◌-◌, false, List, ◌∷◌, ◌++◌, refl, sym, ◌∙◌, arith}
use Rattle.bd_base.specs.declared.limits.TheConstants.{DESCRIPTORS, PROCESSES}
use Rattle.bd_base.specs.declared.reason.Reason.{Reason}
use Rattle.bd_base.specs.declared.reason.Reason.TheVariants.{NoFile, Exists, Denied, Inodes, NoSpace, Extents, TooBig, OpenBy, BadFd, ReadOnly, FdsFull, KernelOpen}
use Rattle.bd_blocks.proofs.FieldTexts.{same_fields}
use Rattle.bd_blocks.specs.Texts.{Reads, before, has_byte, number_text, two_numbers_text}
use Rattle.bd_blocks.specs.declared.text.TheConstants.{SPACE}
use Rattle.bd_entry.specs.Ranges.{IsReason}
use Rattle.bd_entry.specs.Reading.{HasNoNumbers, HasNumbers, IsPairUpTo}
use Rattle.bd_entry.specs.Texts.{beyond_text, reason_text}

-- a text whose first field is none of the three words is no reason with numbers
pub no_numbered : (text w rest : List ℕ) → text ≡ w ++ SPACE ∷ rest → has_byte SPACE w ≡ false → w ≢ codes "denied" → w ≢ codes "open-by"
    → w ≢ codes "kernel-open"
    → (r : Reason) → IsReason r × HasNumbers r → text ≢ reason_text r
no_numbered text w rest splits one_word denied open_by kernel_open (Denied rule) is same =
    denied (same_fields text w rest (codes "denied") (number_text rule) splits one_word same refl).0
no_numbered text w rest splits one_word denied open_by kernel_open (OpenBy process fd) is same =
    open_by (same_fields text w rest (codes "open-by") (before (number_text process) (number_text fd)) splits one_word same refl).0
no_numbered text w rest splits one_word denied open_by kernel_open (KernelOpen process) is same =
    kernel_open (same_fields text w rest (codes "kernel-open") (number_text process) splits one_word same refl).0
no_numbered text w rest splits one_word denied open_by kernel_open r is same = is.1

-- a text whose first field is `open-by` and whose rest is no process and descriptor is no reason with numbers
pub no_open_by : (text w rest : List ℕ) → text ≡ w ++ SPACE ∷ rest → has_byte SPACE w ≡ false → w ≡ codes "open-by"
    → ((p : ℕ × ℕ) → IsPairUpTo (PROCESSES - 1) (DESCRIPTORS - 1) p → rest ≢ two_numbers_text p)
    → (r : Reason) → IsReason r × HasNumbers r → text ≢ reason_text r
no_open_by text w rest splits one_word is none (Denied rule) fits same =
    let first = same_fields text w rest (codes "denied") (number_text rule) splits one_word same refl in
    let never : codes "open-by" ≡ codes "denied" = sym is ∙ first.0 in
    cc never
no_open_by text w rest splits one_word is none (OpenBy process fd) fits same =
    none (process, fd) (omega (arith, fits.0), omega (arith, fits.0))
    (same_fields text w rest (codes "open-by") (before (number_text process) (number_text fd)) splits one_word same refl).1
no_open_by text w rest splits one_word is none (KernelOpen process) fits same =
    let first = same_fields text w rest (codes "kernel-open") (number_text process) splits one_word same refl in
    let never : codes "open-by" ≡ codes "kernel-open" = sym is ∙ first.0 in
    cc never
no_open_by text w rest splits one_word is none r fits same = fits.1

-- a text whose first field is another word tells no number of bytes
pub no_beyond : (text w rest : List ℕ) → text ≡ w ++ SPACE ∷ rest → has_byte SPACE w ≡ false → w ≢ codes "beyond" → (n : ℕ)
    → text ≢ beyond_text n
no_beyond text w rest splits one_word other n same = other (same_fields text w rest (codes "beyond") (number_text n) splits one_word same refl).0

-- a text that is none of the nine is no reason without numbers
pub no_plain : (text : List ℕ) → text ≢ codes "no-file" → text ≢ codes "exists" → text ≢ codes "inodes" → text ≢ codes "no-space"
    → text ≢ codes "extents" → text ≢ codes "too-big" → text ≢ codes "bad-fd" → text ≢ codes "read-only" → text ≢ codes "fds-full"
    → (r : Reason) → HasNoNumbers r → text ≢ reason_text r
no_plain text no_file exists inodes no_space extents too_big bad_fd read_only fds_full NoFile is same = no_file same
no_plain text no_file exists inodes no_space extents too_big bad_fd read_only fds_full Exists is same = exists same
no_plain text no_file exists inodes no_space extents too_big bad_fd read_only fds_full Inodes is same = inodes same
no_plain text no_file exists inodes no_space extents too_big bad_fd read_only fds_full NoSpace is same = no_space same
no_plain text no_file exists inodes no_space extents too_big bad_fd read_only fds_full Extents is same = extents same
no_plain text no_file exists inodes no_space extents too_big bad_fd read_only fds_full TooBig is same = too_big same
no_plain text no_file exists inodes no_space extents too_big bad_fd read_only fds_full BadFd is same = bad_fd same
no_plain text no_file exists inodes no_space extents too_big bad_fd read_only fds_full ReadOnly is same = read_only same
no_plain text no_file exists inodes no_space extents too_big bad_fd read_only fds_full FdsFull is same = fds_full same
no_plain text no_file exists inodes no_space extents too_big bad_fd read_only fds_full r is same = is

-- each reason has numbers or has none
either : (r : Reason) → IsReason r → (HasNoNumbers r → ⊥) → (IsReason r × HasNumbers r → ⊥) → ⊥
either (Denied rule) is plain numbered = numbered (is, tt)
either (OpenBy process fd) is plain numbered = numbered (is, tt)
either (KernelOpen process) is plain numbered = numbered (is, tt)
either r is plain numbered = plain tt

plain_is : (r : Reason) → HasNoNumbers r → IsReason r
plain_is (Denied rule) none = absurd none
plain_is (OpenBy process fd) none = absurd none
plain_is (KernelOpen process) none = absurd none
plain_is r none = tt

-- a reason without numbers was read
pub plain_read : (text : List ℕ) (r : Reason) → HasNoNumbers r × (text ≡ reason_text r) → IsReason r × (text ≡ reason_text r)
plain_read text r read = (plain_is r read.0, read.1)

-- where there is none without numbers, what is read with numbers is the reason
pub numbered_read : (text : List ℕ) → ((r : Reason) → HasNoNumbers r → text ≢ reason_text r) → (o : Option Reason) → Reads reason_text
    (λ r. IsReason r × HasNumbers r) text o
    → Reads reason_text IsReason text o
numbered_read text plain None none = λ r is same. either r is (λ no. plain r no same) (λ both. none r both same)
numbered_read text plain (Some r) read = (read.0.0, read.1)
