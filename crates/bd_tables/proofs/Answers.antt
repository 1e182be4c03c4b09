-- Where an engine is after an answer.
use Rattle.std.proofs.Common.{◌≡◌, sym, subst, refl}
use Rattle.bd_base.specs.declared.journal.Found.{Found}
use Rattle.bd_tables.specs.declared.request.Looked.{Looked}
use Rattle.bd_tables.specs.declared.request.Looked.TheVariants.{Hit, Miss}
use Rattle.bd_tables.specs.declared.request.Request.{Request}
use Rattle.bd_tables.specs.declared.request.Walked.{Walked}
use Rattle.bd_tables.specs.declared.request.Walked.TheVariants.{Granted, Missed}
use Rattle.bd_tables.specs.declared.state.Walk.{Walk}
use Rattle.bd_tables.specs.declared.state.Walk.TheVariants.{Idle, Entered, Refused, Translated}
use Rattle.bd_tables.specs.Answers.{AfterLook, AfterRead, HoldsFor, IsAnswered, IsEntered, IsTranslated}

holds-translated : (request : Request) (walk : Walk) → HoldsFor request walk → IsTranslated walk
holds-translated request Idle holds = holds
holds-translated request (Entered other) holds = holds
holds-translated request (Refused other found) holds = holds
holds-translated request (Translated other completion) holds = tt

pub translated-answered : (walk : Walk) → IsTranslated walk → IsAnswered walk
translated-answered Idle is = is
translated-answered (Entered request) is = is
translated-answered (Refused request found) is = tt
translated-answered (Translated request completion) is = tt

refused : (request : Request) (found : Found) (walk : Walk) → walk ≡ Refused request found → IsAnswered walk
refused request found walk is = subst IsAnswered (sym is) tt

entered : (request : Request) (walk : Walk) → walk ≡ Entered request → IsEntered walk
entered request walk is = subst IsEntered (sym is) tt

-- ---- after a read of an entry

pub read-translated : (old new : Walk) (answer : Walked) → IsEntered old → ((request : Request) → old ≡ Entered request →
    AfterRead request answer new) →
    answer ≡ Granted → IsTranslated new
read-translated Idle new answer is after granted = absurd is
read-translated (Entered request) new answer is after granted =
    holds-translated request new (subst (λ a. AfterRead request a new) granted (after request refl))
read-translated (Refused request found) new answer is after granted = absurd is
read-translated (Translated request completion) new answer is after granted = absurd is

pub read-refused : (old new : Walk) (answer : Walked) (found : Found) → IsEntered old →
    ((request : Request) → old ≡ Entered request → AfterRead request answer new) → answer ≡ Missed found → IsAnswered new
read-refused Idle new answer found is after missed = absurd is
read-refused (Entered request) new answer found is after missed =
    refused request found new (subst (λ a. AfterRead request a new) missed (after request refl)).0
read-refused (Refused request other) new answer found is after missed = absurd is
read-refused (Translated request completion) new answer found is after missed = absurd is

-- ---- after a look

pub look-translated : (old new : Walk) (answer : Looked) → IsEntered old → ((request : Request) → old ≡ Entered request →
    AfterLook request answer new) →
    answer ≡ Hit → IsTranslated new
look-translated Idle new answer is after hit = absurd is
look-translated (Entered request) new answer is after hit =
    holds-translated request new (subst (λ a. AfterLook request a new) hit (after request refl))
look-translated (Refused request found) new answer is after hit = absurd is
look-translated (Translated request completion) new answer is after hit = absurd is

pub look-entered : (old new : Walk) (answer : Looked) → IsEntered old → ((request : Request) → old ≡ Entered request →
    AfterLook request answer new) →
    answer ≡ Miss → IsEntered new
look-entered Idle new answer is after miss = absurd is
look-entered (Entered request) new answer is after miss = entered request new (subst (λ a. AfterLook request a new) miss (after request refl))
look-entered (Refused request found) new answer is after miss = absurd is
look-entered (Translated request completion) new answer is after miss = absurd is
