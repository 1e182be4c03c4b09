-- To which end the inputs of a replay lead, told from what stands behind the end.
use Rattle.std.proofs.Common.{◌≡◌, ◌⊎◌, ℕ, List, Bool, Option, None, Some, refl, sym, ap, ◌∙◌, subst, inl, inr}
use Rattle.std.proofs.lemmas.Option.{none-some, same_Some}
use Rattle.bd_base.specs.declared.script.Script.{Script}
use Rattle.bd_base.specs.declared.volume.Volume.{Volume}
use Rattle.bd_image.specs.Rules.{Accepted}
use Rattle.bd_outside.specs.Around.{Left, Reading, Writing}
use Rattle.bd_script.specs.Refusals.{IsBadScript}
use Rattle.bd_script.proofs.LawsOfTexts.{one-refusal}
use Rattle.bd_top.specs.declared.status.Outcome.{Outcome}
use Rattle.bd_top.specs.declared.status.Status.{Status}
use Rattle.bd_top.specs.declared.status.Status.TheVariants.{Done, Usage, ReadFault, WriteFault, BadImage, BadScript, OutOfMemory}
use Rattle.bd_top.specs.Ends.{Decide, IsFault, LeadReplayTo, LeftGood, ReplayAround, ReplayEnd, TextAndImageWritten}
use Rattle.bd_top.specs.Inputs.{IsImageRead, IsScriptBad, IsScriptRead, IsUnbuilt, RefusesReplay, first_unbuilt}
use Rattle.bd_top.specs.Runs.{IsReplay}
use Rattle.bd_top.proofs.Ends.{NotAccepted, OneRefusal, bad_is_no_script, not_accepted, not_broken, read_is_not_bad, same_refusal, same_script, script_left}

-- where a good image and a good script were left, the image is accepted
left_accepted : (image text : Reading) (Holds : Volume → Script → Type 0) → LeftGood image text Holds → Left image Accepted
left_accepted image text Holds good = (good.0, good.1, good.2.0)

-- the script that was read is as first as the one that was left
same_first : (image text : Reading) (script : Script) (first : Option ℕ) → IsScriptRead text script
    → LeftGood image text (λ v other. first_unbuilt other ≡ first) → first_unbuilt script ≡ first
same_first image text script first read (b, left, (accepted, (t, text_left, (other, of_script, is_text, is)))) =
    subst (λ (s : Script). first_unbuilt s ≡ first) (same_script text script other t read text_left of_script is_text) is

-- a script that was refused is not the one that was left
not_left : (image text : Reading) (line rule : ℕ) (Holds : Volume → Script → Type 0) → IsScriptBad text line rule
    → LeftGood image text Holds → ⊥
not_left image text line rule Holds bad (b, left, (accepted, (t, text_left, (other, of_script, is_text, holds)))) =
    bad_is_no_script text line rule t other bad text_left of_script is_text

-- ---- a script that was refused

bad_decided : (image text : Reading) (line rule l r : ℕ) → IsScriptBad text l r → LeadReplayTo image text (BadScript line rule)
    → BadScript l r ≡ BadScript line rule
bad_decided image text line rule l r bad (inl lead) =
    let same = one-refusal lead.1.0 l r line rule (script_left text l r lead.1.0 bad lead.1.1) lead.1.2 in rw (same.0, same.1) refl
bad_decided image text line rule l r bad (inr lead) =
    absurd (not_left image text l r (λ v script. first_unbuilt script ≡ Some line) bad lead.0)

unbuilt_decided : (image text : Reading) (line rule l r : ℕ) → IsUnbuilt text l r → LeadReplayTo image text (BadScript line rule)
    → BadScript l r ≡ BadScript line rule
unbuilt_decided image text line rule l r unbuilt (inl lead) = absurd (read_is_not_bad text unbuilt.script line rule unbuilt.read lead.1)
unbuilt_decided image text line rule l r unbuilt (inr lead) =
    let same = same_Some l line (sym unbuilt.first ∙ same_first image text unbuilt.script (Some line) unbuilt.read lead.0) in
    rw (same, unbuilt.no_rule, lead.1) refl

-- ---- all of it

module _ (not : NotAccepted) (one : OneRefusal) (image : Reading) where
  -- a replay that was refused
  refused_decided : (text : Reading) (status decided : Status) → RefusesReplay image text status → LeadReplayTo image text decided
      → (status ≡ decided) ⊎ IsFault status
  refused_decided text (ReadFault which) decided refused lead = inr tt
  refused_decided text (WriteFault to) decided refused lead = inr tt
  refused_decided text OutOfMemory decided refused lead = inr tt
  refused_decided text (BadImage r p) (BadImage rule place) (inl refused) lead =
      let same = same_refusal not one image r p rule place refused.0 lead in inl (rw (same.0, same.1) refl)
  refused_decided text (BadImage r p) (BadScript line rule) (inl refused) (inl lead) =
      absurd (not_accepted not one image r p refused.0 lead.0)
  refused_decided text (BadImage r p) (BadScript line rule) (inl refused) (inr lead) =
      absurd (not_accepted not one image r p refused.0 (left_accepted image text (λ v script. first_unbuilt script ≡ Some line) lead.0))
  refused_decided text (BadImage r p) Done (inl refused) lead =
      absurd (not_accepted not one image r p refused.0 (left_accepted image text (λ v script. first_unbuilt script ≡ None) lead))
  refused_decided text (BadScript l r) (BadImage rule place) (inr refused) lead =
      absurd (not_broken not one image refused.0 rule place refused.1 lead)
  refused_decided text (BadScript l r) (BadScript line rule) (inr (v, read, inl bad)) lead = inl (bad_decided image text line rule l r bad lead)
  refused_decided text (BadScript l r) (BadScript line rule) (inr (v, read, inr unbuilt)) lead =
      inl (unbuilt_decided image text line rule l r unbuilt lead)
  refused_decided text (BadScript l r) Done (inr (v, read, inl bad)) lead =
      absurd (not_left image text l r (λ v script. first_unbuilt script ≡ None) bad lead)
  refused_decided text (BadScript l r) Done (inr (v, read, inr unbuilt)) lead =
      absurd (none-some l (sym (same_first image text unbuilt.script None unbuilt.read lead) ∙ unbuilt.first))
  refused_decided text (BadImage r p) decided (inl refused) lead = absurd lead
  refused_decided text (BadScript l r) decided (inr refused) lead = absurd lead
  refused_decided text status decided (inl refused) lead = absurd refused.0
  refused_decided text status decided (inr refused) lead = absurd refused.2

  -- a replay that was run
  ran_decided : (script : Reading) (print : Bool) (out disk : Writing) (outcome : Outcome) (text left : List ℕ) (status decided : Status)
      → IsReplay image script print outcome.journal outcome.trace text left → TextAndImageWritten out disk text left status
      → LeadReplayTo image script decided → (status ≡ decided) ⊎ IsFault status
  ran_decided script print out disk outcome text left (ReadFault which) decided run written lead = inr tt
  ran_decided script print out disk outcome text left (WriteFault to) decided run written lead = inr tt
  ran_decided script print out disk outcome text left OutOfMemory decided run written lead = inr tt
  ran_decided script print out disk outcome text left Done Done run written lead = inl refl
  ran_decided script print out disk outcome text left Done (BadImage rule place) run written lead =
      absurd (not_broken not one image run.volume rule place run.image_is lead)
  ran_decided script print out disk outcome text left Done (BadScript line rule) run written (inl lead) =
      absurd (read_is_not_bad script run.script line rule run.script_is lead.1)
  ran_decided script print out disk outcome text left Done (BadScript line rule) run written (inr lead) =
      absurd (none-some line (sym run.built ∙ same_first image script run.script (Some line) run.script_is lead.0))
  ran_decided script print out disk outcome text left Done decided run written lead = absurd lead
  ran_decided script print out disk outcome text left status decided run written lead = absurd written

  pub replay_decided : (script : Reading) (print : Bool) (out disk : Writing) (outcome : Outcome)
      → ReplayEnd print (record { image = image; script = script; out = out; disk = disk }) outcome
      → Decide (LeadReplayTo image script) outcome.status
  replay_decided script print out disk outcome (inl none) = λ decided lead. refused_decided script outcome.status decided none.refused lead
  replay_decided script print out disk outcome (inr run) = λ decided lead.
      ran_decided script print out disk outcome run.text run.left outcome.status decided run.run run.written lead

-- ---- a replay does not end as one for which no words ask

refused_is_command : (image text : Reading) → RefusesReplay image text Usage → ⊥
refused_is_command image text (inl refused) = refused.0
refused_is_command image text (inr refused) = refused.2

pub replay_is_command : (print : Bool) (around : ReplayAround) (outcome : Outcome) → ReplayEnd print around outcome
    → outcome.status ≡ Usage → ⊥
replay_is_command print around outcome (inl none) usage =
    refused_is_command around.image around.script (subst (RefusesReplay around.image around.script) usage none.refused)
replay_is_command print around outcome (inr run) usage =
    let there : ⊥ = subst (TextAndImageWritten around.out around.disk run.text run.left) usage run.written in there
