-- A default without a name declares one text more.
use Rattle.std.proofs.Common.{◌≡◌, true, false, ◌++◌, ◌∷◌, [], ap, sym, append-nil, ◌∙◌, map, rules}
use Rattle.std.specs.Prelude.{if◌then◌else◌}
use Rattle.std.specs.List.{flat_map}
use Rattle.bundle_syntax.specs.Item.{item_of}
use Rattle.bundle_rules.specs.Nodes.{has_text}
use Rattle.bundle_rules.specs.Statements.{default_name}
use Rattle.bundle_link_tables.specs.Free.{declared_at_top, has_nameless_default}
use Rattle.bundle_link_tables.proofs.MarkLemmas.{texts_put}
use Rattle.bundle_link_tables.proofs.free.top_names.Goals as goal

pub returns-then-not-has_nameless_default : goal.returns-then-not-has_nameless_default
returns-then-not-has_nameless_default c = λ x.
    let names = flat_map (declared_at_top c.args.denotations.now) c.args.denotations.now.occurrences.items in
    let none : has_nameless_default (map item_of c.args.pieces.now) ≡ false = search rules in
    c.in_ok-names.ensures x
    ∙ ap (has_text x) (sym (append-nil names) ∙ ap (λ b. names ++ (if b then default_name ∷ [] else [])) (sym none))

pub returns : goal.returns
returns c = λ x.
    let names = flat_map (declared_at_top c.args.denotations.now) c.args.denotations.now.occurrences.items in
    let one : has_nameless_default (map item_of c.args.pieces.now) ≡ true = search rules in
    texts_put names c.in_ok-names.names.keys c.insert.new.self.keys _ c.in_ok-insert.ensures.keys c.in_ok-names.ensures x
    ∙ ap (λ b. has_text x (names ++ (if b then default_name ∷ [] else []))) (sym one)
