-- Each call that is made is within the limits, and its line is short.
use Rattle.std.proofs.Common.{◌≡◌, ℕ, ◌+◌, ◌*◌, ◌/◌, ◌%◌, ◌^◌, ◌<◌, ◌≤◌, Bool, true, false, cond, nat_le, nat_lt, nat_eq, List, [], ◌∷◌, length, Option, None, Some, unwrap_or, refl, inl, inr, arith, subst, sym}
use Rattle.std.specs.List.{All}
use Rattle.std.specs.Option.{IfSome}
use Rattle.std.proofs.lemmas.List.Elements.{All-cons, All-nil}
use Rattle.bd_base.specs.declared.script.Call.{Call}
use Rattle.bd_base.specs.declared.script.Call.TheVariants.{Enter, Read, Write, Map, Close}
use Rattle.bd_base.specs.declared.script.How.{How}
use Rattle.bd_base.specs.declared.script.How.TheVariants.{Plain, Direct}
use Rattle.bd_base.specs.declared.script.Mode.{Mode}
use Rattle.bd_base.specs.declared.script.Mode.TheVariants.{R, Rw}
use Rattle.bd_base.specs.Names.{IsName, IsNameByte}
use Rattle.bd_base.specs.Scripts.{AreBytesUpTo, IsCall}
use Rattle.bd_script.proofs.ShortLines.{HasShortLine, close-short, map-short, open-short, read-short, write-short}
use Rattle.bd_gen.specs.Bytes.{repeated}
use Rattle.bd_gen.specs.Calls.{drawn_byte, drawn_call, drawn_place, early_call, fixed_call, late_call, open_call}
use Rattle.bd_gen.specs.Draws.{number_after}
use Rattle.bd_gen.specs.Script.{drawn_before, made_call}
use Rattle.bd_gen.specs.Volume.{file_name}
use Rattle.bd_gen.proofs.RepeatedBytes.{AreBytes-repeated, length-repeated, repeated-is}

-- a call is within the limits, and its line is short
pub record Fits (call : Call) : Type 0 where
  pub is_call : IsCall call
  pub short : HasShortLine call

-- ---- the calls that are fixed

pub IsName-file_name : (file : ℕ) → file < 8 → IsName (file_name file)
unfolding file_name
IsName-file_name file low = record {
  least = omega arith;
  most = omega arith;
  bytes =
      All-cons IsNameByte 102 ((48 + file) ∷ []) (inl (omega arith, omega arith))
      (All-cons IsNameByte (48 + file) [] (inr (inl (omega arith, omega arith))) (All-nil IsNameByte));
}

length-file_name : (file : ℕ) → length (file_name file) ≤ 31
unfolding file_name
length-file_name file = omega arith

open-fits : (process : ℕ) (mode : Mode) (how : How) → Fits (open_call process mode how)
unfolding open_call
open-fits process mode how = record {
  is_call = (let low : process % 8 < 8 = omega arith in IsName-file_name (process % 8) low);
  short = open-short (file_name (process % 8)) mode how (length-file_name (process % 8));
}

close-fits : (fd : ℕ) → fd < 256 → Fits (Close fd)
close-fits fd low = record { is_call = low; short = close-short fd low }

map-fits : (fd : ℕ) → fd < 256 → Fits (Map fd)
map-fits fd low = record { is_call = low; short = map-short fd low }

cond-fits : (test : Bool) (a b : Option Call) → IfSome a Fits → IfSome b Fits → IfSome (cond test a b) Fits
cond-fits true a b first second = first
cond-fits false a b first second = second

early-fits : (process call : ℕ) → IfSome (early_call process call) Fits
unfolding early_call
early-fits process call =
    cond-fits (nat_eq call 100) (Some (open_call process R Plain)) _ (open-fits process R Plain)
    (cond-fits (nat_eq call 101) (Some (Close 1)) _ (close-fits 1 (omega arith))
    (cond-fits (nat_eq call 102) (Some (Map 0)) None (map-fits 0 (omega arith)) tt))

late-fits : (call : ℕ) → IfSome (late_call call) Fits
unfolding late_call
late-fits call = cond-fits (nat_eq call 200) (Some (Map 0)) None (map-fits 0 (omega arith)) tt

fixed-fits : (process call : ℕ) → IfSome (fixed_call process call) Fits
unfolding fixed_call
fixed-fits process call =
    cond-fits (nat_eq call 0) (Some (open_call process Rw Direct)) _ (open-fits process Rw Direct)
    (cond-fits (nat_eq call 255) (Some (Close 0)) _ (close-fits 0 (omega arith))
    (cond-fits (nat_lt process 8) (early_call process call) (late_call call) (early-fits process call) (late-fits call)))

-- ---- the calls that are drawn

drawn_place-small : (x : ℕ) → drawn_place x < 10 ^ 12
unfolding drawn_place
drawn_place-small x = omega arith

drawn_byte-small : (x : ℕ) → drawn_byte x < 256
unfolding drawn_byte
drawn_byte-small x = omega arith

read-fits : (off len : ℕ) → off < 10 ^ 12 → 1 ≤ len → len ≤ 16384 → Fits (Read 0 off len)
read-fits off len low some most = record {
  is_call = (omega arith, omega arith, some, most);
  short = read-short 0 off len (omega arith) (omega arith) (omega arith);
}

write-fits : (off count byte : ℕ) → off < 10 ^ 12 → 1 ≤ count → count ≤ 16384 → byte < 256 → Fits (Write 0 off (repeated count byte))
write-fits off count byte low some most small =
    let all : length (repeated count byte) ≡ count = length-repeated count byte in
    let bytes : AreBytesUpTo 16384 (repeated count byte) = (AreBytes-repeated count byte small, omega arith, omega arith) in
    record {
      is_call = (omega arith, omega arith, bytes);
      short = subst (λ (l : List ℕ). HasShortLine (Write 0 off l)) (sym (repeated-is count byte))
          (write-short 0 off count byte (omega arith) (omega arith) (omega arith) (omega arith));
    }

drawn-fits : (x : ℕ) → Fits (drawn_call x)
unfolding drawn_call
drawn-fits x =
    elim (nat_le (2 ^ 63) x) as (λ b. Fits (cond b (Write 0 (drawn_place x) (repeated 16384 (drawn_byte x))) (Read 0 (drawn_place x) 16384))) [
      | true ↦ write-fits (drawn_place x) 16384 (drawn_byte x) (drawn_place-small x) (omega arith) (omega arith) (drawn_byte-small x)
      | false ↦ read-fits (drawn_place x) 16384 (drawn_place-small x) (omega arith) (omega arith)
    ]

-- ---- all calls

either-fits : (fixed : Option Call) (call : Call) → IfSome fixed Fits → Fits call → Fits (unwrap_or fixed call)
either-fits None call first second = second
either-fits (Some fixed) call first second = first

pub made-fits : (x process call : ℕ) → Fits (made_call x process call)
unfolding made_call
made-fits x process call =
    either-fits (fixed_call process call) (drawn_call (number_after x (drawn_before process call + 1)))
    (fixed-fits process call) (drawn-fits (number_after x (drawn_before process call + 1)))
