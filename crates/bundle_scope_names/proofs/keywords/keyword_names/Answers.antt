-- Each new text begins as those do that stand for reserved words.
use Rattle.std.proofs.Common.{ap, subst, sym, ◌∙◌, map, string_bytes}
use Rattle.std.specs.Option.{option_map}
use Rattle.bundle_scope_denote.specs.declared.table.Binding.{Binding}
use Rattle.bundle_scope_names.specs.Called.{keyword_text}
use Rattle.bundle_scope_names.specs.Fresh.{AreMangled}
use Rattle.bundle_scope_names.proofs.HomesLemmas.{mangled_keywords}
use Rattle.bundle_scope_names.proofs.keywords.keyword_names.Goals as goal

pub contexts_of-requires : goal.contexts_of-requires
contexts_of-requires c =
    subst AreMangled (sym (ap (map (option_map string_bytes)) c.deref-3.ensures.value ∙ c.in_ok-texts.ensures ∙ ap (map (λ (binding : Binding). keyword_text binding.sym.now)) c.deref.ensures.value)) (mangled_keywords c.args.denotations.now.bindings.items)
