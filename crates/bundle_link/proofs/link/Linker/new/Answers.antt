-- The modules are linked as those of the program are; where memory runs out nothing is made.
use Rattle.std.proofs.Common.{List, inl, refl, sym, ap, ◌∙◌, subst}
use Rattle.std.proofs.lemmas.Result.{IfOk-from_err, err_from_is_err_and}
use Rattle.bundle_rules.specs.Nodes.{numbers_once}
use Rattle.bundle_link.specs.Programs.{AreModulesFaultless, AreTransformedOf, is_one_call, module_numbers}
use Rattle.bundle_link.proofs.NumberLemmas.{once-same}
use Rattle.bundle_link.proofs.ProgramLemmas.{files_at, trees_of}
use Rattle.bundle_link.specs.declared.transformed.TransformedModule.{TransformedModule}
use Rattle.bundle_link.proofs.link.Linker.new.Goals as goal

pub returns-in_err-config-clause-modules : goal.returns-in_err-config-clause-modules
returns-in_err-config-clause-modules c = IfOk-from_err _ _ c.from_residual-in_err-config.ensures.0

pub returns-in_err-config-clause-entry : goal.returns-in_err-config-clause-entry
returns-in_err-config-clause-entry c = IfOk-from_err _ _ c.from_residual-in_err-config.ensures.0

pub returns-in_err-config-clause-linked : goal.returns-in_err-config-clause-linked
returns-in_err-config-clause-linked c = IfOk-from_err _ _ c.from_residual-in_err-config.ensures.0

pub returns-in_err-config-clause-refused : goal.returns-in_err-config-clause-refused
returns-in_err-config-clause-refused c =
    let p = err_from_is_err_and c.from_residual-in_err-config.result c.from_residual-in_err-config.ensures.1 in
    rw (p.1, p.2) (inl refl)

pub returns-in_err-config-clause-sound : goal.returns-in_err-config-clause-sound
returns-in_err-config-clause-sound c = IfOk-from_err _ _ c.from_residual-in_err-config.ensures.0

pub returns-clause-linked : goal.returns-clause-linked
returns-clause-linked c = λ p w.
    let modules = c.args.modules.items in
    let ids = c.in_ok-linked.ensures.ids ∙ ap (λ (ms : List TransformedModule). numbers_once (module_numbers ms)) c.deref.ensures.value in
    record {
      modules = record {
        links = (w.links.0 ∙ sym c.in_ok-config.ensures.require, w.links.1 ∙ sym c.in_ok-config.ensures.external);
        iife = w.iife ∙ ap is_one_call (sym c.in_ok-config.ensures.which);
        each = w.each;
        apart = w.apart;
        others = w.others;
        there = w.there;
        begins = w.begins;
        entry_there = w.entry_there;
      };
      faultless = subst AreModulesFaultless c.deref.ensures.value c.in_ok-linked.ensures.faultless;
      numbered = ids ∙ once-same (module_numbers modules) w.apart;
      linked = c.in_ok-linked.ensures.linked p (subst (λ (ms : List TransformedModule). AreTransformedOf p ms c.args.config.now c.args.entry) (sym c.deref.ensures.value) w);
      trees = trees_of p c.args.modules.items c.args.config.now c.args.entry w;
      files = files_at p c.args.modules.items c.args.config.now c.args.entry c.in_ok-linked.linked.ids.keys w ids;
    }

pub returns-clause-sound : goal.returns-clause-sound
returns-clause-sound c = λ p w once. record { of = returns-clause-linked c p w; once = once }
