-- One declarator.
use Rattle.std.proofs.Common.{ap, refl}
use Rattle.bundle_syntax.specs.Item as h
use Rattle.bundle_tree_listed.specs.Tree.{node, stmt_items, var_declarator_items}
use Rattle.bundle_merge_injected.proofs.Parts.{one_declarator}
use Rattle.bundle_merge_injected.proofs.declaration.declared.Goals as goal

pub returns : goal.returns
unfolding stmt_items
returns c =
    ap (node 0 (h.VarDecl c.args.kind c.args.meta)) (one_declarator c.in_ok-decls.decls c.args.decl (var_declarator_items 1 c.args.decl) c.in_ok-decls.ensures.items refl)
