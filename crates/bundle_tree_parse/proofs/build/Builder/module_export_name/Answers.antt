-- Where there is no string that names, nothing is taken.
use Rattle.std.proofs.Common.{◌≡◌, None, arith, sym, ◌∙◌}
use Rattle.std.proofs.lemmas.Grind.{common_steps}
use Rattle.bundle_tree_parse.specs.declared.build.BuildError.TheVariants.{Form}
use Rattle.bundle_tree_parse.specs.Sorts.{AModuleName}
use Rattle.bundle_tree_parse.specs.Parse.{taken}
use Rattle.bundle_tree_parse.proofs.Parsing.{string_place}
use Rattle.bundle_tree_parse.proofs.build.Builder.module_export_name.Goals as goal

pub returns-in_err-str : goal.returns-in_err-str
returns-in_err-str c =
    let refused : c.in_err-str.field-0.0 ≡ Form → taken c.args.room (AModuleName c.args.role) c.args.field c.args.self.now ≡ None =
    λ form. string_place _ c.args.role c.args.field c.args.self.now (sym c.is_ident.ensures ∙ c.if-is_ident.false) ∙ c.in_err-str.ensures form in
    grind (arith, common_steps, refused)
