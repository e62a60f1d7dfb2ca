-- The named module stands by itself, or as the call of one function.
use Rattle.std.proofs.Common.{◌≡◌, Result, Ok, Err, refl, ap, sym, ◌∙◌}
use Rattle.std.specs.Result.{IfOk}
use Rattle.std.proofs.lemmas.Bool.{false≢true}
use Rattle.std.proofs.lemmas.Result.{IfOk-weaker}
use Rattle.bundle_tree_listed.specs.Tree.{module_items}
use Rattle.bundle_rules.specs.Forms.{wrapped}
use Rattle.bundle_link.specs.Programs.{is_one_call}
use Rattle.bundler_entry.proofs.finish.finished.Goals as goal

-- what is so of a value under a condition
under : {X Y C : Type 0} (r : Result X Y) (P : X → Type 0) → (C → IfOk r P) → IfOk r (λ x. C → P x)
under (Ok x) P f = f
under (Err e) P f = tt

pub returns-in-Es : goal.returns-in-Es
returns-in-Es c = record {
  named = c.give_names.new.merged;
  at_once = c.in_ok-give_names.ensures.at_once;
  in_turn = c.in_ok-give_names.ensures.in_turn;
  as_module = λ so. refl;
  as_call = λ so. absurd (false≢true (sym (ap is_one_call c.in-Es.is) ∙ so));
}

pub returns-in-Iife : goal.returns-in-Iife
returns-in-Iife c =
    IfOk-weaker c.called.result _ _
    (λ made is. record {
      named = c.give_names.new.merged;
      at_once = c.in_ok-give_names.ensures.at_once;
      in_turn = c.in_ok-give_names.ensures.in_turn;
      as_module = λ so. absurd (false≢true (sym so ∙ ap is_one_call c.in-Iife.is));
      as_call = λ so can. is can;
    })
    (under c.called.result (λ made. module_items 0 made ≡ wrapped (module_items 0 c.give_names.new.merged)) c.called.ensures)
