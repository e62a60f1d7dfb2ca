-- Each of the three names is asked for.
use Rattle.std.proofs.Common.{◌||◌, ap, ◌∙◌, map, codes}
use Rattle.bundle_syntax.specs.Item.{item_of}
use Rattle.bundle_rules.specs.Bound.{has_free}
use Rattle.bundle_link_tables.proofs.free.names_common_js.Goals as goal

pub returns : goal.returns
returns c = λ is.
    let tree = map item_of c.args.pieces.now in
    c.is_one.ensures
    ∙ ap (λ b. b || (c.has_free-second.result || c.has_free-third.result)) (c.has_free-first.ensures is)
    ∙ ap (λ b. has_free tree (codes "require") || (b || c.has_free-third.result)) (c.has_free-second.ensures is)
    ∙ ap (λ b. has_free tree (codes "require") || (has_free tree (codes "module") || b)) (c.has_free-third.ensures is)
