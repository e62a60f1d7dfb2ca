use Rattle.std.proofs.Common.{not, ap, ◌∙◌, rules}
use Rattle.bundle_merge_modules.proofs.AnswerLemmas.{any_from, sifted}
use Rattle.bundle_merge_modules.proofs.part.sift.Goals as goal

pub returns-clause-sifted : goal.returns-clause-sifted
returns-clause-sifted g c = sifted _ _ _ (λ x b f' k. ((k.shown, k.shows, search rules), search rules)) _ _ c.retain.ensures.filtered

pub returns-clause-any : goal.returns-clause-any
returns-clause-any g c = ap not c.is_empty.ensures ∙ any_from c.retain.new.self.items _ c.retain.new.self.ok.0
