-- What a linker adds declares no name twice.
use Rattle.std.proofs.Common.{◌≡◌, zero, suc, false, List, [], ◌∷◌, ap, sym, ◌∙◌}
use Rattle.std.proofs.lemmas.Bool.{false≢true}
use Rattle.std.proofs.lemmas.Option.{none-some, same_Some}
use Rattle.bundle_rules.specs.Declarations.{names_agree, Declared}
use Rattle.bundle_rules.specs.Idents.{Ident}
use Rattle.bundle_rules.specs.Nodes.{Text}
use Rattle.bundle_merge_injected.specs.Listed as l
use Rattle.bundle_merge_theory.specs.joined.Joined.{own_declared}
use Rattle.bundle_merge_theory.specs.undoubled.Clashing.{IsAmong, NoneClash}
use Rattle.bundle_merge_theory.proofs.undoubled.Clash.{agree_turned}

-- where none is declared, or one
pub none_of_none : NoneClash []
none_of_none a b one two its = none-some a one.1

pub none_of_one : (d : Declared) → NoneClash (d ∷ [])
none_of_one d a b (zero, one) (zero, two) its =
    its.apart
    (ap (λ (c : Declared). c.place) (sym (same_Some d a one) ∙ same_Some d b two))
none_of_one d a b (zero, one) (suc j, two) its = none-some b two
none_of_one d a b (suc i, one) two its = none-some a one

-- one more in front, whose name is that of no other
pub none_named : (first : Declared) (rest : List Declared) →
    ((e : Declared) → IsAmong rest e → names_agree e.name first.name ≡ false) → NoneClash rest →
    NoneClash (first ∷ rest)
none_named first rest other none a b (zero, one) (zero, two) its =
    its.apart
    (ap (λ (c : Declared). c.place) (sym (same_Some first a one) ∙ same_Some first b two))
none_named first rest other none a b (zero, one) (suc j, two) its =
    false≢true
    (sym (other b (j, two))
    ∙ agree_turned first.name b.name
    (ap (λ (c : Declared). names_agree c.name b.name) (same_Some first a one) ∙ its.agree))
none_named first rest other none a b (suc i, one) (zero, two) its =
    false≢true
    (sym (other a (i, one))
    ∙ ap (λ (c : Declared). names_agree a.name c.name) (same_Some first b two)
    ∙ its.agree)
none_named first rest other none a b (suc i, one) (suc j, two) its = none a b (i, one) (j, two) its

-- imports of the whole, or of nothing, and stars
pub whole-none : (s : Text) (name : Ident) → NoneClash (own_declared (l.import_whole s name))
whole-none s name = none_of_one _

pub bare-none : (s : Text) → NoneClash (own_declared (l.import_bare s))
bare-none s = none_of_none

pub star-none : (s : Text) → NoneClash (own_declared (l.export_star s))
star-none s = none_of_none
