use Rattle.std.proofs.Common.{◌≡◌, ℕ, List, ◌++◌, codes, decimal, ap₂, ◌∙◌, append_assoc}
use Rattle.bundle_json_document.specs.Answer.{line_of as line_in}
use Rattle.bundle_json_document.proofs.Fronts.{if_ok_weaker}
use Rattle.bundle_json_document.proofs.answering.line_of.Goals as goal

-- the parts of the line, one behind the other
parts : (number : ℕ) (name : List ℕ) → codes "error " ++ (decimal number ++ (codes ": " ++ (name ++ codes "\n"))) ≡ codes "error " ++ decimal number ++ codes ": " ++ name ++ codes "\n"
parts number name = simp append_assoc

pub returns : goal.returns
unfolding line_in
returns c =
    let number = c.number-number.ensures in
    let name = c.name-name.ensures in
    if_ok_weaker _ _ c.format.result (λ line e. e ∙ parts _ _ ∙ ap₂ (λ n it. codes "error " ++ decimal n ++ codes ": " ++ it ++ codes "\n") number name) c.format.ensures.ok
