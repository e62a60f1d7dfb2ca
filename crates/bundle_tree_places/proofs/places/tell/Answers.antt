-- An element in a field is told by that field; nothing is read at an end.
use Rattle.std.proofs.Common.{List, map, sym, ap, ◌∙◌}
use Rattle.std.proofs.lemmas.Option.{none-some}
use Rattle.bundle_syntax.specs.Item.{item_of}
use Rattle.bundle_rules.specs.Places.{Around}
use Rattle.bundle_rules.specs.Nodes.{node_at}
use Rattle.bundle_rules.specs.Reads.{property_of}
use Rattle.bundle_tree_places.specs.Placed.{read_in}
use Rattle.bundle_tree_places.specs.Stated.{is_in_statement}
use Rattle.bundle_tree_places.proofs.PlaceLemmas.{told_end, told_field}
use Rattle.bundle_tree_places.proofs.places.tell.Goals as goal

pub returns-in-Some-clause-word : goal.returns-in-Some-clause-word
returns-in-Some-clause-word c = λ path seconds all at.
    c.told_in.ensures.word path seconds all
    ∙ ap (λ (p : List Around). read_in p (property_of (node_at (map item_of c.args.pieces.now) c.args.place))) (sym (told_field path (item_of c.args.piece) c.in-Some.field (sym c.field_in.ensures ∙ c.in-Some.is)))

pub returns-in-Some-clause-stated : goal.returns-in-Some-clause-stated
returns-in-Some-clause-stated c = λ path field all is.
    c.told_in.ensures.stated path all
    ∙ ap is_in_statement (sym (told_field path (item_of c.args.piece) c.in-Some.field (sym c.field_in.ensures ∙ c.in-Some.is)))

pub returns-in-None-clause-word : goal.returns-in-None-clause-word
returns-in-None-clause-word c = λ path seconds all at.
    told_end (map item_of c.args.pieces.now) c.args.place path (item_of c.args.piece) (sym c.field_in.ensures ∙ c.in-None.is) at

pub returns-in-None-clause-stated : goal.returns-in-None-clause-stated
returns-in-None-clause-stated c = λ path field all is. absurd (none-some field (sym c.in-None.is ∙ (c.field_in.ensures ∙ is)))
