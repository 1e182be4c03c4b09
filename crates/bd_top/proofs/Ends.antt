-- To which end the inputs of a command lead, told from what stands behind the end.
use Rattle.std.proofs.Common.{◌≡◌, ◌⊎◌, ℕ, ◌+◌, ◌<◌, List, Some, length, refl, sym, ap, ◌∙◌, subst, inl, inr, arith}
use Rattle.bd_base.specs.declared.limits.TheConstants.{IMAGE_SIZE, SCRIPT_SIZE}
use Rattle.bd_base.specs.declared.script.Script.{Script}
use Rattle.bd_base.specs.declared.volume.Volume.{Volume}
use Rattle.bd_image.specs.Rules.{Accepted, Broken}
use Rattle.bd_gen.specs.Script.{made_script}
use Rattle.bd_gen.specs.Volume.{made_volume}
use Rattle.bd_image.specs.Volumes.{image_of, volume_of}
use Rattle.bd_script.specs.Refusals.{IsBadScript}
use Rattle.bd_script.specs.Texts.{IsScript, script_text}
use Rattle.bd_script.proofs.LawsOfTexts.{one-refusal, one-script, refused-no_script}
use Rattle.bd_outside.specs.Around.{Left, ReadPast, Reading, Writing}
use Rattle.bd_outside.proofs.Steps.{taken-le}
use Rattle.bd_top.specs.declared.status.Status.{Status}
use Rattle.bd_top.specs.declared.status.Status.TheVariants.{Done, Usage, ReadFault, WriteFault, BadImage, OutOfMemory}
use Rattle.bd_top.specs.Ends.{CheckEnd, Decide, IsFault, LeadCheckTo, LineWritten, MakeEnd, TextAndImageWritten}
use Rattle.bd_top.specs.CheckLine.{check_line}
use Rattle.bd_top.specs.Inputs.{IsBadImage, IsImageRead, IsScriptBad, IsScriptRead, RefusesImage}
use Rattle.bd_image.proofs.LongImages.{too_long}

-- the laws of refusals
abbrev pub NotAccepted : Type 0
NotAccepted = (b : List ℕ) (number place : ℕ) → Broken b number place → Accepted b → ⊥

abbrev pub OneRefusal : Type 0
OneRefusal = (b : List ℕ) (m p n q : ℕ) → Broken b m p → Broken b n q → (m ≡ n) × (p ≡ q)

-- what was left is longer than the limit where the bytes that were read are
pub long_left : (r : Reading) (limit : ℕ) (bytes left : List ℕ) → r.left ≡ Some left → ReadPast limit r bytes → limit < length left
long_left r limit bytes left is past = omega (arith, taken-le r.left r.remains bytes left is past.0, past.1)

-- ---- what was read of a script, and what was left

-- a script that was refused has that line and rule in what was left
pub script_left : (text : Reading) (line rule : ℕ) (t : List ℕ) → IsScriptBad text line rule → text.left ≡ Some t → IsBadScript t line rule
script_left text line rule t bad is =
    elim bad.read [
      | inl all ↦ subst (λ (b : List ℕ). IsBadScript b line rule) (all.0 t is).0 bad.bad
      | inr past ↦
          let longer : SCRIPT_SIZE < length bad.bytes = omega (arith, past.1) in
          let told = one-refusal bad.bytes line rule 0 1 bad.bad (inl (longer, refl, refl)) in
          inl (long_left text SCRIPT_SIZE bad.bytes t is past, told.0, told.1)
    ]

-- a script that was refused has no reading
pub bad_is_no_script : (text : Reading) (line rule : ℕ) (t : List ℕ) (script : Script) → IsScriptBad text line rule
    → text.left ≡ Some t → IsScript script → t ≡ script_text script → ⊥
bad_is_no_script text line rule t script bad is of_script is_text =
    refused-no_script t line rule (script_left text line rule t bad is) script of_script is_text

-- one that was read has no bad line
pub read_is_not_bad : (text : Reading) (script : Script) (line rule : ℕ) → IsScriptRead text script
    → Left text (λ t. IsBadScript t line rule) → ⊥
read_is_not_bad text script line rule read bad =
    refused-no_script bad.0 line rule bad.2 script read.is_script (sym (read.read bad.0 bad.1).0 ∙ read.is_text)

-- the script that was read is the one of the text that was left
pub same_script : (text : Reading) (script other : Script) (t : List ℕ) → IsScriptRead text script → text.left ≡ Some t
    → IsScript other → t ≡ script_text other → other ≡ script
same_script text script other t read is of_script is_text =
    one-script other script of_script read.is_script (sym is_text ∙ sym (read.read t is).0 ∙ read.is_text)

-- ---- what was read of an image, and what was left

module _ (not : NotAccepted) (one : OneRefusal) (image : Reading) where
  -- an image that was read breaks no rule
  pub not_broken : (v : Volume) (rule place : ℕ) → IsImageRead image v → Left image (λ b. Broken b rule place) → ⊥
  not_broken v rule place read broken =
      not broken.0 rule place broken.2 (subst Accepted (read.read broken.0 broken.1).0 read.accepted)

  -- one that was refused is not accepted
  pub not_accepted : (r p : ℕ) → IsBadImage image r p → Left image Accepted → ⊥
  not_accepted r p bad accepted =
      elim bad.read [
        | inl all ↦ not accepted.0 r p (subst (λ (b : List ℕ). Broken b r p) (all.0 accepted.0 accepted.1).0 bad.broken) accepted.2
        | inr past ↦ not accepted.0 1 (IMAGE_SIZE + 1) (too_long accepted.0 (long_left image IMAGE_SIZE bad.bytes accepted.0 accepted.1 past)) accepted.2
      ]

  -- it was refused with the rule and the place that it breaks
  pub same_refusal : (r p rule place : ℕ) → IsBadImage image r p → Left image (λ b. Broken b rule place) → (r ≡ rule) × (p ≡ place)
  same_refusal r p rule place bad broken =
      elim bad.read [
        | inl all ↦ one broken.0 r p rule place (subst (λ (b : List ℕ). Broken b r p) (all.0 broken.0 broken.1).0 bad.broken) broken.2
        | inr past ↦
            let read = one bad.bytes r p 1 (IMAGE_SIZE + 1) bad.broken (too_long bad.bytes (omega (arith, past.1))) in
            let left = one broken.0 rule place 1 (IMAGE_SIZE + 1) broken.2
            (too_long broken.0 (long_left image IMAGE_SIZE bad.bytes broken.0 broken.1 past)) in
            (read.0 ∙ sym left.0, read.1 ∙ sym left.1)
      ]

  -- the volume that was read is the one of the image that was left
  pub same_volume : (v : Volume) (b : List ℕ) → IsImageRead image v → image.left ≡ Some b → v ≡ volume_of b
  same_volume v b read is = read.says ∙ ap volume_of (read.read b is).0

  -- ---- check

  -- a check of an image that was refused
  refused_check_decided : (status decided : Status) → RefusesImage image status → LeadCheckTo image decided
      → (status ≡ decided) ⊎ IsFault status
  refused_check_decided (ReadFault which) decided refused lead = inr tt
  refused_check_decided OutOfMemory decided refused lead = inr tt
  refused_check_decided (BadImage r p) (BadImage rule place) refused lead =
      let same = same_refusal r p rule place refused lead in inl (rw (same.0, same.1) refl)
  refused_check_decided (BadImage r p) Done refused lead = absurd (not_accepted r p refused lead)
  refused_check_decided (BadImage r p) decided refused lead = absurd lead
  refused_check_decided status decided refused lead = absurd refused

  -- a check that told of its image
  told_decided : (v : Volume) (out : Writing) (status decided : Status) → IsImageRead image v → LineWritten out (check_line v) status
      → LeadCheckTo image decided → (status ≡ decided) ⊎ IsFault status
  told_decided v out (WriteFault to) decided read written lead = inr tt
  told_decided v out OutOfMemory decided read written lead = inr tt
  told_decided v out Done Done read written lead = inl refl
  told_decided v out Done (BadImage rule place) read written lead = absurd (not_broken v rule place read lead)
  told_decided v out Done decided read written lead = absurd lead
  told_decided v out status decided read written lead = absurd written

  pub check_decided : (out : Writing) (status : Status) → CheckEnd image out status → Decide (LeadCheckTo image) status
  check_decided out status (inl none) = λ decided lead. refused_check_decided status decided none.0 lead
  check_decided out status (inr told) = λ decided lead. told_decided told.0 out status decided told.1 told.2 lead

-- ---- make

written_decided : (out disk : Writing) (text image : List ℕ) (status : Status) → TextAndImageWritten out disk text image status
    → (status ≡ Done) ⊎ IsFault status
written_decided out disk text image Done written = inl refl
written_decided out disk text image (WriteFault to) written = inr tt
written_decided out disk text image OutOfMemory written = inr tt
written_decided out disk text image status written = absurd written

pub make_decided : (n : ℕ) (out disk : Writing) (status : Status) → MakeEnd n out disk status → (status ≡ Done) ⊎ IsFault status
make_decided n out disk status (inl none) = inr (subst IsFault (sym none.0) tt)
make_decided n out disk status (inr made) = written_decided out disk (script_text (made_script n)) (image_of made_volume) status made

-- ---- no command ends as one for which no words ask

pub check_is_command : (image : Reading) (out : Writing) (status : Status) → CheckEnd image out status → status ≡ Usage → ⊥
check_is_command image out status (inl none) usage = let there : ⊥ = subst (RefusesImage image) usage none.0 in there
check_is_command image out status (inr told) usage = let there : ⊥ = subst (LineWritten out (check_line told.0)) usage told.2 in there

pub make_is_command : (n : ℕ) (out disk : Writing) (status : Status) → MakeEnd n out disk status → status ≡ Usage → ⊥
make_is_command n out disk status (inl none) usage = let there : OutOfMemory ≡ Usage = sym none.0 ∙ usage in cc
make_is_command n out disk status (inr made) usage =
    let there : ⊥ = subst (TextAndImageWritten out disk (script_text (made_script n)) (image_of made_volume)) usage made in there
