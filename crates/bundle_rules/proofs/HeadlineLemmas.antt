-- What follows from the headline.
use Rattle.std.specs.Prelude.{◌≡◌, ◌≢◌, List}
use Rattle.std.proofs.Common.{refl, inl, inr}
use Rattle.bundle_rules.specs.Entries.{Settings}
use Rattle.bundle_rules.specs.Kept.{Kept}
use Rattle.bundle_rules.specs.Faults.{Fault, Parties}
use Rattle.bundle_rules.specs.Judging.{Entry}
use Rattle.bundle_rules.specs.Headline.{Bundled, Answer, Bundles, Refusal, NoMemory, IsRight, IsHeadline, AnswersWhereFaultless}

-- with no fault and no refused growth there are bundles
pub answers_where_faultless : (parties : Parties) (settings : Settings) (entries : List Entry) (old : Kept) (answer : Answer) (new : Kept) → IsHeadline parties settings entries old answer new → AnswersWhereFaultless parties settings entries old answer new
answers_where_faultless parties settings entries old answer new headline no_fault no_context memory = by_answer answer headline.right memory
  where
    refused : (fault : Fault) → IsRight parties settings entries old (Refusal fault) new → ⊥
    refused fault (inl refuses) = no_fault fault refuses
    refused fault (inr contexts) = no_context fault contexts

    by_answer : (it : Answer) → IsRight parties settings entries old it new → it ≢ NoMemory → (bundles : List Bundled) × (it ≡ Bundles bundles)
    by_answer (Bundles bundles) right some = (bundles, refl)
    by_answer (Refusal fault) right some = absurd (refused fault right)
    by_answer NoMemory right some = absurd (some refl)
