-- The example of the tests: its script, its journal, and that the journal is in order for the script.
use Rattle.std.proofs.Common.{◌≡◌, ℕ, zero, suc, ◌+◌, ◌<◌, Bool, true, false, ◌&&◌, nat_lt, All, List, [], ◌∷◌, None, Some, length, replicate, take, arith, lit≤, refl, sym, ap, ◌∙◌, inl}
use Rattle.std.specs.Prelude.{codes, not}
use Rattle.std.specs.List.{list_all, range_with_len}
use Rattle.std.proofs.lemmas.Bool.{and_parts, ltb-true}
use Rattle.std.proofs.lemmas.List.Elements.{All-cons, All-nil}
use Rattle.bd_base.specs.Bytes.{AreBytes}
use Rattle.bd_base.specs.Names.{IsName, IsNameByte}
use Rattle.bd_base.specs.Scripts.{IsCall, IsProcess, IsSchedule, IsWithinLimits}
use Rattle.bd_base.specs.declared.journal.At.{At}
use Rattle.bd_base.specs.declared.journal.Found.TheVariants.{Beyond, NoDirectory}
use Rattle.bd_base.specs.declared.journal.Way.TheVariants.{AfterMiss, Direct as ByDevice, PastKnown, Plain as OnPlain}
use Rattle.bd_base.specs.declared.reason.Reason.TheVariants.{Extents, NoFile, NoSpace}
use Rattle.bd_base.specs.declared.script.Call.{Call}
use Rattle.bd_base.specs.declared.script.Call.TheVariants.{Close, Create, Enter, Map, RawRead, RawWrite, Read, Size, Truncate, Unlink, Write}
use Rattle.bd_base.specs.declared.script.How.TheVariants.{Direct, Plain}
use Rattle.bd_base.specs.declared.script.Mode.TheVariants.{R, Rw}
use Rattle.bd_base.specs.declared.script.Script.{Script}
use Rattle.bd_entry.specs.declared.entry.Entry.{Entry}
use Rattle.bd_entry.specs.declared.entry.Entry.TheVariants.{Access, Attached, Cleared, Closed, Created, Detached, Mapped, Missed, Opened, Refused, SizeRead, Sized, Unlinked}
use Rattle.bd_entry.specs.Calls.{at_of, calls_of, is_finished}
use Rattle.bd_entry.specs.History.{InOrder, InOrderSoFar}
use Rattle.bd_entry.specs.Ranges.{AreEntries, IsEntry}
use Rattle.bd_entry.specs.Rules.{EntryRule, FitsCall, FitsScript, NextCall, Once}
use Rattle.bd_entry.proofs.CallOrder.{numbered}
use Rattle.bd_blocks.specs.Texts.{number_text}
use Rattle.bd_script.specs.Texts.{IsScript}

-- ---- tests of lists

-- the tests of the items, one after another
abbrev Each : {X : Type 0} → (X → Type 0) → List X → Type 0
Each P [] = Unit {0}
Each P (x ∷ xs) = P x × Each P xs

all_from : {X : Type 0} (P : X → Type 0) (xs : List X) → Each P xs → All P xs
all_from P [] each = All-nil P
all_from P (x ∷ xs) each = All-cons P x xs each.0 (all_from P xs each.1)

-- what passes a test at each number of a range
in_range : (test : ℕ → Bool) (a n k : ℕ) → list_all test (range_with_len a n) ≡ true → k < n → test (a + k) ≡ true
in_range test a zero k all below = absurd (omega arith)
in_range test a (suc n) zero all below =
    (let start : a + 0 ≡ a = omega arith in ap test start)
    ∙ (and_parts (test a) (list_all test (range_with_len (a + 1) n)) all).0
in_range test a (suc n) (suc k) all below =
    (let next : a + suc k ≡ a + 1 + k = omega arith in ap test next)
    ∙ in_range test (a + 1) n k (and_parts (test a) (list_all test (range_with_len (a + 1) n)) all).1 (omega arith)

bytes_are : (bytes : List ℕ) → list_all (λ byte. nat_lt byte 256) bytes ≡ true → AreBytes bytes
bytes_are [] all = All-nil (λ byte. byte < 256)
bytes_are (b ∷ bytes) all =
    let parts = and_parts (nat_lt b 256) (list_all (λ byte. nat_lt byte 256) bytes) all in
    All-cons (λ byte. byte < 256) b bytes (ltb-true b 256 parts.0) (bytes_are bytes parts.1)

is_name_a : IsName (codes "a")
is_name_a = record { least = omega arith; most = omega arith; bytes = all_from IsNameByte (codes "a") (inl (omega arith, omega arith), tt) }

-- ---- the script

abbrev pub first_calls : List Call
first_calls =
    Enter (codes "a") Rw Direct
    ∷ Write 0 4090 (replicate 10 65)
    ∷ Read 0 4094 5000
    ∷ Size 0
    ∷ Map 0
    ∷ RawRead 0 (record { lo = 5; hi = 6 })
    ∷ Close 0 ∷ []

abbrev pub second_calls : List Call
second_calls =
    Create (codes "a") 7
    ∷ Enter (codes "a") Rw Plain
    ∷ Write 0 0 (replicate 3 65)
    ∷ Truncate 0 9
    ∷ RawWrite 0 0 (replicate 2 65)
    ∷ RawRead 0 (record { lo = 0; hi = 2 })
    ∷ Unlink (codes "a")
    ∷ Enter (codes "a") R Direct
    ∷ Read 0 0 2 ∷ []

abbrev pub script : Script
script = record { processes = record { uid = 100; calls = first_calls } ∷ record { uid = 101; calls = second_calls } ∷ []; schedule = [] }

first_are_calls : All IsCall first_calls
first_are_calls =
    all_from IsCall first_calls (
      is_name_a,
      (
        (omega arith, omega arith, (bytes_are (replicate 10 65) refl, omega arith, omega arith)),
        (
          (omega arith, omega arith, omega arith, omega arith),
          (
            omega arith,
            (
              omega arith,
              (
                (omega arith, omega arith, omega arith),
                (
                  omega arith,
                  tt,
                ),
              ),
            ),
          ),
        ),
      ),
    )

second_are_calls : All IsCall second_calls
second_are_calls =
    all_from IsCall second_calls (
      (is_name_a, omega arith),
      (
        is_name_a,
        (
          (omega arith, omega arith, (bytes_are (replicate 3 65) refl, omega arith, omega arith)),
          (
            (omega arith, omega arith),
            (
              (omega arith, omega arith, (bytes_are (replicate 2 65) refl, omega arith, omega arith)),
              (
                (omega arith, omega arith, omega arith),
                (
                  is_name_a,
                  (
                    is_name_a,
                    (
                      (omega arith, omega arith, omega arith, omega arith),
                      tt,
                    ),
                  ),
                ),
              ),
            ),
          ),
        ),
      ),
    )

pub within_limits : IsWithinLimits script
within_limits = record {
  process_count = omega arith;
  processes =
      all_from IsProcess script.processes (
        record { uid = omega arith; count = omega arith; calls = first_are_calls },
        (record { uid = omega arith; count = omega arith; calls = second_are_calls }, tt),
      );
  schedule_count = omega arith;
  schedule = All-nil (IsSchedule (length script.processes));
  turns = omega arith;
}

-- its text is not too long
pub is_script : IsScript script
unfolding number_text
is_script = record { limits = within_limits; size = lit≤ tt }

-- ---- the journal

abbrev e0 : Entry
e0 = Opened (numbered 0 0) 0 0 Rw Direct

abbrev e1 : Entry
e1 = Created (numbered 1 0) 1 (codes "a") 7

abbrev e2 : Entry
e2 = Attached (numbered 0 0) 0 0

abbrev e3 : Entry
e3 = Mapped (numbered 0 0) 0 1

abbrev e4 : Entry
e4 = Opened (numbered 1 1) 1 0 Rw Plain

abbrev e5 : Entry
e5 = Refused (numbered 0 1) (Some 1) Extents

abbrev e6 : Entry
e6 = Refused (numbered 0 1) (Some 0) NoSpace

abbrev e7 : Entry
e7 = Access (numbered 1 2) 0 0 1 0 (Some 4) (record { lo = 0; hi = 3 }) true OnPlain (replicate 3 65)

abbrev e8 : Entry
e8 = Missed (numbered 0 2) 0 NoDirectory

abbrev e9 : Entry
e9 = Access (numbered 0 2) 1 0 0 1 None (record { lo = 0; hi = 4096 }) false PastKnown (replicate 3 67)

abbrev e10 : Entry
e10 = Access (numbered 0 2) 2 0 0 2 None (record { lo = 0; hi = 902 }) false PastKnown (68 ∷ [])

abbrev e11 : Entry
e11 = Cleared (numbered 1 3) 0 0 0

abbrev e12 : Entry
e12 = Detached (numbered 1 3) 0 0 0

abbrev e13 : Entry
e13 = Access (numbered 0 2) 0 0 0 0 (Some 3) (record { lo = 4094; hi = 4096 }) false AfterMiss (65 ∷ 66 ∷ [])

abbrev e14 : Entry
e14 = Sized (numbered 1 3) 0 9

abbrev e15 : Entry
e15 = SizeRead (numbered 0 3) 0 4100

abbrev e16 : Entry
e16 = Access (numbered 1 4) 0 0 1 0 (Some 4) (record { lo = 0; hi = 2 }) true ByDevice (replicate 2 65)

abbrev e17 : Entry
e17 = Mapped (numbered 0 4) 0 2

abbrev e18 : Entry
e18 = Access (numbered 1 5) 0 0 1 0 (Some 4) (record { lo = 0; hi = 2 }) false ByDevice (replicate 2 65)

abbrev e19 : Entry
e19 = Missed (numbered 0 5) 0 (Beyond 5)

abbrev e20 : Entry
e20 = Closed (numbered 0 6) 0

abbrev e21 : Entry
e21 = Unlinked (numbered 1 6) 1

abbrev e22 : Entry
e22 = Refused (numbered 1 7) None NoFile

abbrev e23 : Entry
e23 = Access (numbered 1 8) 0 0 1 0 None (record { lo = 0; hi = 2 }) false OnPlain ([])

abbrev pub journal : List Entry
journal =
    e0 ∷ e1 ∷ e2 ∷ e3 ∷ e4 ∷ e5 ∷ e6 ∷ e7 ∷ e8 ∷ e9 ∷ e10 ∷ e11 ∷ e12 ∷ e13 ∷ e14 ∷ e15 ∷ e16 ∷ e17 ∷ e18 ∷ e19 ∷ e20 ∷ e21 ∷ e22 ∷ e23 ∷ []

pub are_entries : AreEntries journal
are_entries =
    all_from IsEntry journal (
      record { at = record { process = omega arith; call = omega arith }; fields = (omega arith, omega arith) },
      (
        record { at = record { process = omega arith; call = omega arith }; fields = (omega arith, is_name_a, omega arith) },
        (
          record { at = record { process = omega arith; call = omega arith }; fields = (omega arith, omega arith) },
          (
            record { at = record { process = omega arith; call = omega arith }; fields = (omega arith, omega arith) },
            (
              record { at = record { process = omega arith; call = omega arith }; fields = (omega arith, omega arith) },
              (
                record { at = record { process = omega arith; call = omega arith }; fields = (omega arith, tt) },
                (
                  record { at = record { process = omega arith; call = omega arith }; fields = (omega arith, tt) },
                  (
                    record { at = record { process = omega arith; call = omega arith }; fields = (omega arith, omega arith, omega arith, omega arith, omega arith, (omega arith, omega arith), (bytes_are (replicate 3 65) refl, omega arith)) },
                    (
                      record { at = record { process = omega arith; call = omega arith }; fields = (omega arith, tt) },
                      (
                        record { at = record { process = omega arith; call = omega arith }; fields = (omega arith, omega arith, omega arith, omega arith, tt, (omega arith, omega arith), (bytes_are (replicate 3 67) refl, omega arith)) },
                        (
                          record { at = record { process = omega arith; call = omega arith }; fields = (omega arith, omega arith, omega arith, omega arith, tt, (omega arith, omega arith), (bytes_are (68 ∷ []) refl, omega arith)) },
                          (
                            record { at = record { process = omega arith; call = omega arith }; fields = (omega arith, omega arith, omega arith) },
                            (
                              record { at = record { process = omega arith; call = omega arith }; fields = (omega arith, omega arith, omega arith) },
                              (
                                record { at = record { process = omega arith; call = omega arith }; fields = (omega arith, omega arith, omega arith, omega arith, omega arith, (omega arith, omega arith), (bytes_are (65 ∷ 66 ∷ []) refl, omega arith)) },
                                (
                                  record { at = record { process = omega arith; call = omega arith }; fields = (omega arith, omega arith) },
                                  (
                                    record { at = record { process = omega arith; call = omega arith }; fields = (omega arith, omega arith) },
                                    (
                                      record { at = record { process = omega arith; call = omega arith }; fields = (omega arith, omega arith, omega arith, omega arith, omega arith, (omega arith, omega arith), (bytes_are (replicate 2 65) refl, omega arith)) },
                                      (
                                        record { at = record { process = omega arith; call = omega arith }; fields = (omega arith, omega arith) },
                                        (
                                          record { at = record { process = omega arith; call = omega arith }; fields = (omega arith, omega arith, omega arith, omega arith, omega arith, (omega arith, omega arith), (bytes_are (replicate 2 65) refl, omega arith)) },
                                          (
                                            record { at = record { process = omega arith; call = omega arith }; fields = (omega arith, (omega arith, omega arith)) },
                                            (
                                              record { at = record { process = omega arith; call = omega arith }; fields = omega arith },
                                              (
                                                record { at = record { process = omega arith; call = omega arith }; fields = omega arith },
                                                (
                                                  record { at = record { process = omega arith; call = omega arith }; fields = (tt, tt) },
                                                  (
                                                    record { at = record { process = omega arith; call = omega arith }; fields = (omega arith, omega arith, omega arith, omega arith, tt, (omega arith, omega arith), (bytes_are ([]) refl, omega arith)) },
                                                    tt,
                                                  ),
                                                ),
                                              ),
                                            ),
                                          ),
                                        ),
                                      ),
                                    ),
                                  ),
                                ),
                              ),
                            ),
                          ),
                        ),
                      ),
                    ),
                  ),
                ),
              ),
            ),
          ),
        ),
      ),
    )

-- ---- its order

-- whether the call is the first unfinished one of its process after so many entries
abbrev is_next : ℕ → At → Bool
is_next n at =
    not (is_finished script (take n journal) at)
    && list_all (λ call. is_finished script (take n journal) (numbered at.process call)) (range_with_len 0 at.call)

not_true : (b : Bool) → not b ≡ true → b ≡ false
not_true true is = sym is
not_true false is = refl

-- the entry keeps the three rules
fits : (n : ℕ) (e : Entry) → (at_of e).call < length (calls_of script (at_of e).process) → is_next n (at_of e) ≡ true →
    FitsScript script (take n journal) e FitsCall → FitsScript script (take n journal) e Once → (rule : EntryRule) → FitsScript script (take n journal) e rule
fits n e inside next call once NextCall =
    let done = λ (number : ℕ). is_finished script (take n journal) (numbered (at_of e).process number) in
    let parts = and_parts (not (is_finished script (take n journal) (at_of e))) (list_all done (range_with_len 0 (at_of e).call)) next in
    record {
      in_script = inside;
      unfinished = not_true (is_finished script (take n journal) (at_of e)) parts.0;
      earlier = λ number below.
          (let same : number ≡ 0 + number = omega arith in ap done same) ∙ in_range done 0 (at_of e).call number parts.1 below;
    }
fits n e inside next call once FitsCall = call
fits n e inside next call once Once = once
fits n e inside next call once rule = tt

so_far : InOrderSoFar script journal
so_far = (
  fits 0 e0 (omega arith) refl (record { kind = refl; fields = (refl, refl) }) refl,
  (
    fits 1 e1 (omega arith) refl (record { kind = refl; fields = (refl, refl) }) tt,
    (
      fits 2 e2 (omega arith) refl (record { kind = refl; fields = refl }) tt,
      (
        fits 3 e3 (omega arith) refl (record { kind = refl; fields = refl }) tt,
        (
          fits 4 e4 (omega arith) refl (record { kind = refl; fields = (refl, refl) }) refl,
          (
            fits 5 e5 (omega arith) refl (record { kind = refl; fields = refl }) refl,
            (
              fits 6 e6 (omega arith) refl (record { kind = refl; fields = refl }) refl,
              (
                fits 7 e7 (omega arith) refl (record { kind = refl; fields = (refl, record { piece = refl; direction = refl }) }) refl,
                (
                  fits 8 e8 (omega arith) refl (record { kind = refl; fields = refl }) (refl, refl),
                  (
                    fits 9 e9 (omega arith) refl (record { kind = refl; fields = (refl, record { piece = refl; direction = refl }) }) refl,
                    (
                      fits 10 e10 (omega arith) refl (record { kind = refl; fields = (refl, record { piece = refl; direction = refl }) }) refl,
                      (
                        fits 11 e11 (omega arith) refl (record { kind = refl; fields = tt }) tt,
                        (
                          fits 12 e12 (omega arith) refl (record { kind = refl; fields = tt }) tt,
                          (
                            fits 13 e13 (omega arith) refl (record { kind = refl; fields = (refl, record { piece = refl; direction = refl }) }) refl,
                            (
                              fits 14 e14 (omega arith) refl (record { kind = refl; fields = refl }) tt,
                              (
                                fits 15 e15 (omega arith) refl (record { kind = refl; fields = refl }) tt,
                                (
                                  fits 16 e16 (omega arith) refl (record { kind = refl; fields = (refl, record { piece = refl; direction = refl }) }) refl,
                                  (
                                    fits 17 e17 (omega arith) refl (record { kind = refl; fields = refl }) tt,
                                    (
                                      fits 18 e18 (omega arith) refl (record { kind = refl; fields = (refl, record { piece = refl; direction = refl }) }) refl,
                                      (
                                        fits 19 e19 (omega arith) refl (record { kind = refl; fields = refl }) (refl, refl),
                                        (
                                          fits 20 e20 (omega arith) refl (record { kind = refl; fields = refl }) tt,
                                          (
                                            fits 21 e21 (omega arith) refl (record { kind = refl; fields = tt }) tt,
                                            (
                                              fits 22 e22 (omega arith) refl (record { kind = refl; fields = tt }) tt,
                                              (
                                                fits 23 e23 (omega arith) refl (record { kind = refl; fields = (refl, record { piece = refl; direction = refl }) }) refl,
                                                tt,
                                              ),
                                            ),
                                          ),
                                        ),
                                      ),
                                    ),
                                  ),
                                ),
                              ),
                            ),
                          ),
                        ),
                      ),
                    ),
                  ),
                ),
              ),
            ),
          ),
        ),
      ),
    ),
  ),
)

finished : (process call : ℕ) → call < length (calls_of script process) → is_finished script journal (numbered process call) ≡ true
finished zero call inside =
    (let same : call ≡ 0 + call = omega arith in ap (λ (n : ℕ). is_finished script journal (numbered 0 n)) same)
    ∙ in_range (λ n. is_finished script journal (numbered 0 n)) 0 7 call refl inside
finished (suc zero) call inside =
    (let same : call ≡ 0 + call = omega arith in ap (λ (n : ℕ). is_finished script journal (numbered 1 n)) same)
    ∙ in_range (λ n. is_finished script journal (numbered 1 n)) 0 9 call refl inside
finished (suc (suc process)) call inside = absurd (omega (arith, inside))

pub in_order : InOrder script journal
in_order = record { so_far = so_far; finished = finished }
