-- To which end the inputs of a verification lead, told from what stands behind the end.
use Rattle.std.proofs.Common.{◌≡◌, ◌≢◌, ◌⊎◌, ℕ, ◌+◌, ◌<◌, ◌≤◌, List, None, Some, drop, length, refl, sym, ap, ◌∙◌, subst, inl, inr, arith}
use Rattle.std.proofs.lemmas.Bool.{cases_lt}
use Rattle.std.proofs.lemmas.Option.{none-some, same_Some}
use Rattle.bd_base.specs.declared.limits.TheConstants.{JOURNAL_SIZE, SCRIPT_SIZE}
use Rattle.bd_base.specs.declared.script.Script.{Script}
use Rattle.bd_base.specs.declared.volume.Volume.{Volume}
use Rattle.bd_entry.specs.declared.entry.Entry.{Entry}
use Rattle.bd_entry.specs.Ranges.{AreEntries}
use Rattle.bd_entry.specs.Reading.{IsAfterReport, IsBadJournal, IsHeaderAt}
use Rattle.bd_entry.specs.Texts.{journal_text}
use Rattle.bd_image.specs.Rules.{Accepted, Broken}
use Rattle.bd_image.specs.Volumes.{volume_of}
use Rattle.bd_outside.specs.Around.{Left, ReadPast, ReadUpTo, Reading, Writing}
use Rattle.bd_script.specs.Refusals.{IsBadScript}
use Rattle.bd_script.specs.Texts.{IsScript, script_text}
use Rattle.bd_script.proofs.LawsOfTexts.{one-refusal}
use Rattle.bd_store.specs.declared.check.Verdict.{Verdict}
use Rattle.bd_store.specs.declared.check.Verdict.TheVariants as verdicts
use Rattle.bd_store.specs.Verdicts.{BreaksFirst, IsLegalInOrder, LacksEndOf}
use Rattle.bd_top.specs.declared.status.Status.{Status}
use Rattle.bd_top.specs.declared.status.Status.TheVariants.{Done, Usage, ReadFault, WriteFault, BadImage, BadScript, OutOfMemory, BadJournal, NotLegal, Unfinished}
use Rattle.bd_top.specs.Ends.{Decide, IsFault, LineWritten}
use Rattle.bd_top.specs.Inputs.{IsImageRead, IsScriptRead, RefusesImage, RefusesScript}
use Rattle.bd_top.specs.Verify.{FindsLegal, HasBadLine, HasJournal, IsBadText, IsJournalBad, IsJournalRead, IsJudged, IsVerdictOn, LeadVerifyTo, RefusesJournal, RefusesVerify, fault_of, VerifyEnd, verify_line}
use Rattle.bd_top.proofs.Ends.{NotAccepted, OneRefusal, bad_is_no_script, long_left, not_accepted, not_broken, read_is_not_bad, same_refusal, same_script, same_volume, script_left}

-- the laws of journals as text
abbrev pub OneJournal : Type 0
OneJournal = (j k : List Entry) → AreEntries j → AreEntries k → journal_text j ≡ journal_text k → j ≡ k

abbrev pub BadIsNoJournal : Type 0
BadIsNoJournal = (text : List ℕ) (line : ℕ) → IsBadJournal text line → (j : List Entry) → AreEntries j → text ≢ journal_text j

abbrev pub OneBadLine : Type 0
OneBadLine = (text : List ℕ) (m n : ℕ) → IsBadJournal text m → IsBadJournal text n → m ≡ n

-- ---- where a journal begins in a text

-- no place where a journal begins lies before another
not_before : (text : List ℕ) (p q : ℕ) → IsAfterReport text p → IsAfterReport text q → p < q → ⊥
not_before text p q first second less =
    elim first.found [
      | inl all ↦
          elim second.found [
            | inl end ↦ absurd (omega (arith, all, end, less))
            | inr header ↦ absurd (omega (arith, all, header.within, less))
          ]
      | inr header ↦ second.first p less header
    ]

-- a journal begins at one place
one_place : (text : List ℕ) (p q : ℕ) → IsAfterReport text p → IsAfterReport text q → p ≡ q
one_place text p q first second =
    elim (cases_lt p q) [
      | inl less ↦ absurd (not_before text p q first second less)
      | inr high ↦
          elim (cases_lt q p) [
            | inl more ↦ absurd (not_before text q p second first more)
            | inr low ↦ omega (arith, low, high)
          ]
    ]

-- ---- the inputs one after the other

-- to which end a journal leads after a good image and a good script
abbrev LeadJournalTo : Volume → Script → Reading → Status → Type 0
LeadJournalTo v script journal (BadJournal line) = Left journal (λ j. IsBadText j line)
LeadJournalTo v script journal (NotLegal entry rule) =
    Left journal (λ j. (length j ≤ JOURNAL_SIZE) × (entries : List Entry) × HasJournal j entries × BreaksFirst v script entries entry rule)
LeadJournalTo v script journal (Unfinished process call) =
    Left journal (λ j. (length j ≤ JOURNAL_SIZE) × (entries : List Entry) × HasJournal j entries × LacksEndOf v script entries process call)
LeadJournalTo v script journal Done =
    Left journal (λ j. (length j ≤ JOURNAL_SIZE) × (entries : List Entry) × HasJournal j entries × IsLegalInOrder v script entries)
LeadJournalTo v script journal status = ⊥

-- to which end a script leads after a good image: it is bad, or the journal leads there
abbrev LeadScriptTo : Volume → Reading → Reading → Status → Type 0
LeadScriptTo v text journal decided =
    ((line : ℕ) × (rule : ℕ) × (decided ≡ BadScript line rule) × Left text (λ t. IsBadScript t line rule))
    ⊎ Left text (λ t. (script : Script) × IsScript script × (t ≡ script_text script) × LeadJournalTo v script journal decided)

-- to which end an image leads: it is bad, or the script leads there
abbrev LeadImageTo : Reading → Reading → Reading → Status → Type 0
LeadImageTo image text journal decided =
    ((rule : ℕ) × (place : ℕ) × (decided ≡ BadImage rule place) × Left image (λ b. Broken b rule place))
    ⊎ Left image (λ b. Accepted b × LeadScriptTo (volume_of b) text journal decided)

-- the inputs lead to their end one after the other
in_turn : (image text journal : Reading) (decided : Status) → LeadVerifyTo image text journal decided → LeadImageTo image text journal decided
in_turn image text journal (BadImage rule place) lead = inl (rule, place, refl, lead)
in_turn image text journal (BadScript line rule) lead =
    inr (lead.0.0, lead.0.1, (lead.0.2, inl (line, rule, refl, lead.1)))
in_turn image text journal (BadJournal line) lead = inr (lead.0, lead.1, (lead.2.0, inr lead.2.1))
in_turn image text journal (NotLegal entry rule) lead = inr (lead.0, lead.1, (lead.2.0, inr lead.2.1))
in_turn image text journal (Unfinished process call) lead = inr (lead.0, lead.1, (lead.2.0, inr lead.2.1))
in_turn image text journal Done lead = inr (lead.0, lead.1, (lead.2.0, inr lead.2.1))
in_turn image text journal status lead = absurd lead

-- the status of a verdict
abbrev status_of : Verdict → Status
status_of verdicts.Legal = Done
status_of (verdicts.NotLegal entry rule) = NotLegal entry rule
status_of (verdicts.Unfinished process call) = Unfinished process call

-- a fault is the status of its verdict
fault-status : (verdict : Verdict) (status : Status) → fault_of verdict ≡ Some status → status_of verdict ≡ status
fault-status verdicts.Legal status is = absurd (none-some status is)
fault-status (verdicts.NotLegal entry rule) status is = same_Some (NotLegal entry rule) status is
fault-status (verdicts.Unfinished process call) status is = same_Some (Unfinished process call) status is

-- where a verdict has no fault, the journal is legal
pub no_fault : (verdict : Verdict) → fault_of verdict ≡ None → verdict ≡ verdicts.Legal
no_fault verdicts.Legal is = refl
no_fault (verdicts.NotLegal entry rule) is = absurd (none-some (NotLegal entry rule) (sym is))
no_fault (verdicts.Unfinished process call) is = absurd (none-some (Unfinished process call) (sym is))

module _ (unique : OneJournal) (not_bad : BadIsNoJournal) (least : OneBadLine) (not : NotAccepted) (one : OneRefusal) where
  -- a text has one journal
  one_journal : (text : List ℕ) (j k : List Entry) → HasJournal text j → HasJournal text k → j ≡ k
  one_journal text j k first second =
      let place = one_place text first.place second.place first.after_report second.after_report in
      let same : journal_text j ≡ journal_text k = sym first.is_text ∙ ap (λ (p : ℕ). drop p text) place ∙ second.is_text in
      unique j k first.entries second.entries same

  -- a text with a journal has no bad line
  no_bad_line : (text : List ℕ) (j : List Entry) (line : ℕ) → HasJournal text j → HasBadLine text line → ⊥
  no_bad_line text j line has bad =
      let place = one_place text bad.place has.place bad.after_report has.after_report in
      let bad_there : IsBadJournal (drop has.place text) bad.number = subst (λ (p : ℕ). IsBadJournal (drop p text) bad.number) place bad.bad in
      not_bad (drop has.place text) bad.number bad_there j has.entries has.is_text

  -- nor is it bad where it is not too long
  not_bad_text : (text : List ℕ) (j : List Entry) (line : ℕ) → length text ≤ JOURNAL_SIZE → HasJournal text j → IsBadText text line → ⊥
  not_bad_text text j line size has (inl long) = absurd (omega (arith, size, long.0))
  not_bad_text text j line size has (inr bad) = no_bad_line text j line has bad.1

  -- a bad text has one first bad line
  one_bad_line : (text : List ℕ) (m n : ℕ) → IsBadText text m → IsBadText text n → m ≡ n
  one_bad_line text m n (inl first) (inl second) = first.1 ∙ sym second.1
  one_bad_line text m n (inl first) (inr second) = absurd (omega (arith, first.0, second.0))
  one_bad_line text m n (inr first) (inl second) = absurd (omega (arith, first.0, second.0))
  one_bad_line text m n (inr first) (inr second) =
      let a = first.1 in
      let b = second.1 in
      let place = one_place text a.place b.place a.after_report b.after_report in
      let there : IsBadJournal (drop b.place text) a.number = subst (λ (p : ℕ). IsBadJournal (drop p text) a.number) place a.bad in
      let number = least (drop b.place text) a.number b.number there b.bad in
      rw (a.line_is, b.line_is, place, number) refl

  -- ---- what was read of a journal, and what was left

  -- a journal that was refused has that line in what was left
  journal_left : (text : Reading) (line : ℕ) (j : List ℕ) → IsJournalBad text line → text.left ≡ Some j → IsBadText j line
  journal_left text line j bad is =
      elim bad.read [
        | inl all ↦ subst (λ (b : List ℕ). IsBadText b line) (all.0 j is).0 bad.bad
        | inr past ↦
            let longer : JOURNAL_SIZE < length bad.bytes = omega (arith, past.1) in
            inl (long_left text JOURNAL_SIZE bad.bytes j is past, one_bad_line bad.bytes line 0 bad.bad (inl (longer, refl)))
      ]

  -- ---- the journal

  -- a journal that was judged
  judged_decided : (v : Volume) (script : Script) (journal : Reading) (verdict : Verdict) (decided : Status) → IsJudged v script journal verdict
      → LeadJournalTo v script journal decided → status_of verdict ≡ decided
  judged_decided v script journal verdict (BadJournal line) (entries, read, on) lead =
      absurd (not_bad_text read.bytes entries line read.size read.has (subst (λ (j : List ℕ). IsBadText j line) (sym (read.read lead.0 lead.1).0) lead.2))
  judged_decided v script journal verdict (NotLegal entry rule) (entries, read, on) lead =
      let there = subst (λ (j : List ℕ). HasJournal j lead.2.1) (sym (read.read lead.0 lead.1).0) lead.2.2 in
      let same = one_journal read.bytes lead.2.1 entries there read.has in
      ap status_of ((on.broken entry rule).1 (subst (λ (j : List Entry). BreaksFirst v script j entry rule) same lead.2.3))
  judged_decided v script journal verdict (Unfinished process call) (entries, read, on) lead =
      let there = subst (λ (j : List ℕ). HasJournal j lead.2.1) (sym (read.read lead.0 lead.1).0) lead.2.2 in
      let same = one_journal read.bytes lead.2.1 entries there read.has in
      ap status_of ((on.unfinished process call).1 (subst (λ (j : List Entry). LacksEndOf v script j process call) same lead.2.3))
  judged_decided v script journal verdict Done (entries, read, on) lead =
      let there = subst (λ (j : List ℕ). HasJournal j lead.2.1) (sym (read.read lead.0 lead.1).0) lead.2.2 in
      let same = one_journal read.bytes lead.2.1 entries there read.has in
      ap status_of (on.legal.1 (subst (λ (j : List Entry). IsLegalInOrder v script j) same lead.2.3))
  judged_decided v script journal verdict status judged lead = absurd lead

  -- a journal that has no reading
  bad_decided : (v : Volume) (script : Script) (journal : Reading) (line : ℕ) (decided : Status) → IsJournalBad journal line
      → LeadJournalTo v script journal decided → BadJournal line ≡ decided
  bad_decided v script journal line (BadJournal number) bad lead = ap BadJournal (one_bad_line lead.0 line number (journal_left journal line lead.0 bad lead.1) lead.2)
  bad_decided v script journal line (NotLegal entry rule) bad lead =
      absurd (not_bad_text lead.0 lead.2.1 line lead.2.0 lead.2.2 (journal_left journal line lead.0 bad lead.1))
  bad_decided v script journal line (Unfinished process call) bad lead =
      absurd (not_bad_text lead.0 lead.2.1 line lead.2.0 lead.2.2 (journal_left journal line lead.0 bad lead.1))
  bad_decided v script journal line Done bad lead =
      absurd (not_bad_text lead.0 lead.2.1 line lead.2.0 lead.2.2 (journal_left journal line lead.0 bad lead.1))
  bad_decided v script journal line status bad lead = absurd lead

  -- a journal that was refused
  journal_decided : (v : Volume) (script : Script) (journal : Reading) (status decided : Status) → RefusesJournal journal status
      → LeadJournalTo v script journal decided → (status ≡ decided) ⊎ IsFault status
  journal_decided v script journal (ReadFault which) decided refused lead = inr tt
  journal_decided v script journal OutOfMemory decided refused lead = inr tt
  journal_decided v script journal (BadJournal line) decided refused lead = inl (bad_decided v script journal line decided refused lead)
  journal_decided v script journal status decided refused lead = absurd refused

  -- ---- the script

  -- a script that was read leads to its journal
  script_read : (v : Volume) (text journal : Reading) (script : Script) (decided : Status) → IsScriptRead text script
      → LeadScriptTo v text journal decided → LeadJournalTo v script journal decided
  script_read v text journal script decided read (inl (line, rule, is, bad)) =
      absurd (read_is_not_bad text script line rule read bad)
  script_read v text journal script decided read (inr (t, left, (other, is_script, is_text, lead))) =
      subst (λ (s : Script). LeadJournalTo v s journal decided) (same_script text script other t read left is_script is_text) lead

  -- a script that was refused
  script_decided : (v : Volume) (text journal : Reading) (status decided : Status) → RefusesScript text status
      → LeadScriptTo v text journal decided → (status ≡ decided) ⊎ IsFault status
  script_decided v text journal (ReadFault which) decided refused lead = inr tt
  script_decided v text journal OutOfMemory decided refused lead = inr tt
  script_decided v text journal (BadScript line rule) decided refused (inl (m, r, is, bad)) =
      let same = one-refusal bad.0 line rule m r (script_left text line rule bad.0 refused bad.1) bad.2 in
      inl (rw (same.0, same.1, is) refl)
  script_decided v text journal (BadScript line rule) decided refused (inr (t, left, (other, is_script, is_text, lead))) =
      absurd (bad_is_no_script text line rule t other refused left is_script is_text)
  script_decided v text journal status decided refused lead = absurd refused

  -- ---- the image, and all of it

  -- an image that was read leads to its script
  image_read : (image text journal : Reading) (v : Volume) (decided : Status) → IsImageRead image v
      → LeadImageTo image text journal decided → LeadScriptTo v text journal decided
  image_read image text journal v decided read (inl (rule, place, is, broken)) = absurd (not_broken not one image v rule place read broken)
  image_read image text journal v decided read (inr (b, left, (accepted, lead))) =
      subst (λ (w : Volume). LeadScriptTo w text journal decided) (sym (same_volume not one image v b read left)) lead

  -- an image that was refused
  image_decided : (image text journal : Reading) (status decided : Status) → RefusesImage image status → LeadImageTo image text journal decided
      → (status ≡ decided) ⊎ IsFault status
  image_decided image text journal (ReadFault which) decided refused lead = inr tt
  image_decided image text journal OutOfMemory decided refused lead = inr tt
  image_decided image text journal (BadImage r p) decided refused (inl (rule, place, is, broken)) =
      let same = same_refusal not one image r p rule place refused broken in inl (rw (same.0, same.1, is) refl)
  image_decided image text journal (BadImage r p) decided refused (inr (b, left, (accepted, lead))) =
      absurd (not_accepted not one image r p refused (b, left, accepted))
  image_decided image text journal status decided refused lead = absurd refused

  refused_decided : (image text journal : Reading) (status decided : Status) → RefusesVerify image text journal status
      → LeadImageTo image text journal decided → (status ≡ decided) ⊎ IsFault status
  refused_decided image text journal status decided (inl why) lead = image_decided image text journal status decided why.refused lead
  refused_decided image text journal status decided (inr (inl why)) lead =
      script_decided why.volume text journal status decided why.refused (image_read image text journal why.volume decided why.image_read lead)
  refused_decided image text journal status decided (inr (inr (inl why))) lead =
      let there = image_read image text journal why.volume decided why.image_read lead in
      journal_decided why.volume why.script journal status decided why.refused (script_read why.volume text journal why.script decided why.script_read there)
  refused_decided image text journal status decided (inr (inr (inr why))) lead =
      let there = image_read image text journal why.volume decided why.image_read lead in
      let last = script_read why.volume text journal why.script decided why.script_read there in
      inl (sym (fault-status why.verdict status why.fault) ∙ judged_decided why.volume why.script journal why.verdict decided why.judged last)

  told_decided : (image text journal : Reading) (script : Script) (out : Writing) (status decided : Status) → FindsLegal image text journal script
      → LineWritten out (verify_line script) status → LeadImageTo image text journal decided → (status ≡ decided) ⊎ IsFault status
  told_decided image text journal script out (WriteFault to) decided finds written lead = inr tt
  told_decided image text journal script out OutOfMemory decided finds written lead = inr tt
  told_decided image text journal script out Done decided finds written lead =
      let there = script_read finds.volume text journal script decided finds.script_read (image_read image text journal finds.volume decided finds.image_read lead) in
      inl (judged_decided finds.volume script journal verdicts.Legal decided finds.judged there)
  told_decided image text journal script out status decided finds written lead = absurd written

  pub verify_decided : (image text journal : Reading) (out : Writing) (status : Status) → VerifyEnd image text journal out status
      → Decide (LeadVerifyTo image text journal) status
  verify_decided image text journal out status (inl none) = λ decided lead.
      refused_decided image text journal status decided none.0 (in_turn image text journal decided lead)
  verify_decided image text journal out status (inr (script, finds, written)) = λ decided lead.
      told_decided image text journal script out status decided finds written (in_turn image text journal decided lead)

-- ---- a verification does not end as no command does

faulty_is_no_usage : (verdict : Verdict) → fault_of verdict ≡ Some Usage → ⊥
faulty_is_no_usage verdicts.Legal is = none-some Usage is
faulty_is_no_usage (verdicts.NotLegal entry rule) is = let same : NotLegal entry rule ≡ Usage = same_Some (NotLegal entry rule) Usage is in cc
faulty_is_no_usage (verdicts.Unfinished process call) is = let same : Unfinished process call ≡ Usage = same_Some (Unfinished process call) Usage is in cc

refused_is_command : (image text journal : Reading) → RefusesVerify image text journal Usage → ⊥
refused_is_command image text journal (inl why) = why.refused
refused_is_command image text journal (inr (inl why)) = why.refused
refused_is_command image text journal (inr (inr (inl why))) = why.refused
refused_is_command image text journal (inr (inr (inr why))) = faulty_is_no_usage why.verdict why.fault

pub verify_is_command : (image text journal : Reading) (out : Writing) (status : Status) → VerifyEnd image text journal out status
    → status ≡ Usage → ⊥
verify_is_command image text journal out status (inl none) usage =
    refused_is_command image text journal (subst (RefusesVerify image text journal) usage none.0)
verify_is_command image text journal out status (inr (script, finds, written)) usage =
    let there : ⊥ = subst (LineWritten out (verify_line script)) usage written in there
