-- Numbers read from their bytes and written as bytes: each gives the other back.
use Rattle.std.proofs.Common.{◌≡◌, ◌≤◌, ◌<◌, ◌+◌, ◌*◌, ◌/◌, ◌%◌, ◌^◌, ℕ, zero, suc, List, [], ◌∷◌, ◌++◌, length}
use Rattle.std.proofs.Common.{take, get_or, refl, ap, sym, ◌∙◌, arith}
use Rattle.std.proofs.Math.Nat.{div-div-eq-div-mul, one-le-pow, pow-succ'}
use Rattle.std.proofs.lemmas.List.Elements.{All-cons, All-head, All-nil, All-tail}
use Rattle.std.specs.Int.{byte_at, bytes_low_first}
use Rattle.byteorder.specs.Endian.{little_bytes, little_from, little_number}
use Rattle.bd_base.specs.Bytes.{AreBytes}

-- from the second byte on, a number is read from the rest of the bytes
little_from-rest : (i n x : ℕ) (xs : List ℕ) → little_from (suc i) n (x ∷ xs) ≡ little_from i n xs
little_from-rest i zero x xs = refl
little_from-rest i (suc n) x xs = ap (λ (m : ℕ). get_or xs i 0 + 256 * m) (little_from-rest (suc i) n x xs)

-- a number without its lowest byte
without_lowest : (i x m : ℕ) → x < 256 → (x + 256 * m) / 256 ^ suc i ≡ m / 256 ^ i
without_lowest i x m h =
    let one : (x + 256 * m) / 256 ≡ m = omega arith in
    rw pow-succ' (rw (← div-div-eq-div-mul) (ap (λ (k : ℕ). k / 256 ^ i) one))

-- the bytes above the lowest
byte_at-above : (i x m : ℕ) → x < 256 → byte_at (suc i) (x + 256 * m) ≡ byte_at i m
byte_at-above zero x m h = ap (λ (k : ℕ). k % 256) (let e : (x + 256 * m) / 256 ≡ m = omega arith in e)
byte_at-above (suc i) x m h = ap (λ (k : ℕ). k % 256) (without_lowest (suc i) x m h)

bytes_low_first-above : (i n x m : ℕ) → x < 256 → bytes_low_first (suc i) n (x + 256 * m) ≡ bytes_low_first i n m
bytes_low_first-above i zero x m h = refl
bytes_low_first-above i (suc n) x m h = rw (byte_at-above i x m h, bytes_low_first-above (suc i) n x m h) refl

-- the bytes of the number that bytes were read as are these bytes, however many
pub little_bytes-little_number : (n : ℕ) (bs : List ℕ) → AreBytes bs → n ≤ length bs → little_bytes n (little_number n bs) ≡ take n bs
little_bytes-little_number zero bs are h = refl
little_bytes-little_number (suc n) [] are h = absurd (omega arith)
little_bytes-little_number (suc n) (x ∷ xs) are h =
    let low : x < 256 = All-head (λ byte. byte < 256) x xs are in
    let rest : little_bytes n (little_number n xs) ≡ take n xs =
    little_bytes-little_number n xs (All-tail (λ byte. byte < 256) x xs are) (omega arith) in
    let first : (x + 256 * little_number n xs) % 256 ≡ x = omega arith in
    rw (little_from-rest 0 n x xs, first, bytes_low_first-above 0 n x (little_number n xs) low, rest) refl

-- the number of bytes that a number was written as is this number
pub little_number-little_bytes : (n x : ℕ) (rest : List ℕ) → x < 256 ^ n → little_number n (little_bytes n x ++ rest) ≡ x
little_number-little_bytes zero x rest h = let none : 0 ≡ x = omega arith in none
little_number-little_bytes (suc n) x rest h =
    let above : x / 256 < 256 ^ n = omega (arith, pow-succ' 256 n) in
    let whole : x ≡ x % 256 + 256 * (x / 256) = omega arith in
    let bytes : bytes_low_first 1 n x ≡ bytes_low_first 0 n (x / 256) =
    ap (bytes_low_first 1 n) whole ∙ bytes_low_first-above 0 n (x % 256) (x / 256) (omega arith) in
    let read : little_from 1 n (x % 256 ∷ bytes_low_first 1 n x ++ rest) ≡ x / 256 =
    little_from-rest 0 n (x % 256) (bytes_low_first 1 n x ++ rest) ∙ ap (λ (l : List ℕ). little_number n (l ++ rest)) bytes
    ∙ little_number-little_bytes n (x / 256) rest above in
    ap (λ (m : ℕ). x % 256 + 256 * m) read ∙ sym whole

-- each byte of a number is below 256
byte_at-below : (i x : ℕ) → byte_at i x < 256
byte_at-below zero x = omega arith
byte_at-below (suc i) x = let e : x / 256 ^ suc i % 256 < 256 = omega arith in e

-- the bytes that a number is written as are bytes
pub AreBytes-little_bytes : (n i x : ℕ) → AreBytes (bytes_low_first i n x)
AreBytes-little_bytes zero i x = All-nil (λ byte. byte < 256)
AreBytes-little_bytes (suc n) i x =
    All-cons (λ byte. byte < 256) (byte_at i x) (bytes_low_first (suc i) n x) (byte_at-below i x) (AreBytes-little_bytes n (suc i) x)

-- no bytes are the number 0
little_from-nil : (i n : ℕ) → little_from i n [] ≡ 0
little_from-nil i zero = refl
little_from-nil i (suc n) = let rest : little_from (suc i) n [] ≡ 0 = little_from-nil (suc i) n in omega arith

-- a power of 256 is above 0
pow_above : (n : ℕ) → 0 < 256 ^ n
pow_above n = one-le-pow n 256 (omega arith)

-- the number of n bytes is below the n-th power of 256
pub little_number-below : (n : ℕ) (bs : List ℕ) → AreBytes bs → little_number n bs < 256 ^ n
little_number-below zero bs are = let e : 0 < 1 = omega arith in e
little_number-below (suc n) [] are = rw (little_from-nil 0 (suc n)) (pow_above (suc n))
little_number-below (suc n) (x ∷ xs) are =
    let low : x < 256 = All-head (λ byte. byte < 256) x xs are in
    let rest : little_number n xs < 256 ^ n = little_number-below n xs (All-tail (λ byte. byte < 256) x xs are) in
    let read : little_from 1 n (x ∷ xs) ≡ little_number n xs = little_from-rest 0 n x xs in
    omega (arith, pow-succ' 256 n, read)
