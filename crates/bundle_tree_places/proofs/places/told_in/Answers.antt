-- The word and the rest are told by what is known of the place.
use Rattle.std.proofs.Common.{◌||◌, None, Option, ap, ◌∙◌}
use Rattle.std.specs.Prelude.{if◌then◌else◌}
use Rattle.bundle_rules.specs.Places.{in_field}
use Rattle.bundle_rules.specs.Nodes.{Text}
use Rattle.bundle_rules.specs.Reads.{is_written_to}
use Rattle.bundle_tree_places.specs.Placed.{read_in}
use Rattle.bundle_tree_places.specs.Seconds.{text_of}
use Rattle.bundle_tree_places.proofs.places.told_in.Goals as goal

pub returns-clause-word : goal.returns-clause-word
returns-clause-word c = λ path seconds all.
    let spot = c.spot_at-spot.ensures path all in
    let word = text_of c.property_at-property.result in
    c.word_read.ensures
    ∙ (ap (λ b. if b || c.spot_at-spot.result.is_base then None else word) spot.written
    ∙ (ap (λ b. if is_written_to (in_field c.args.field path) || b then None else word) spot.base
    ∙ ap (λ (text : Option Text). read_in (in_field c.args.field path) text) (c.property_at-property.ensures seconds)))

pub returns-clause-stated : goal.returns-clause-stated
returns-clause-stated c = λ path all. (c.spot_at-spot.ensures path all).stated
