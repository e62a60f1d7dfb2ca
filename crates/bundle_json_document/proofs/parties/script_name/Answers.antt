use Rattle.std.proofs.Common.{◌≡◌, Bool, true, false, List, ℕ, ◌++◌, codes, eqb, sym, ap, ◌∙◌, string_bytes}
use Rattle.std.proofs.lemmas.Str.Pattern.{ends_text}
use Rattle.std.specs.List.{ends_with}
use Rattle.bundle_json_document.specs.Parties.{script_path}
use Rattle.bundle_json_document.proofs.parties.script_name.Goals as goal
use Rattle.bundle_json_document.proofs.parties.script_name.Goals.{then-not-ends_with+in_ok-push_str, else-not-ends_with}

-- what a path becomes where it ends so, and where it does not
as_it_is : (path : List ℕ) (ends : Bool) → ends ≡ ends_with eqb path (codes ".js") → ends ≡ true → path ≡ script_path path
as_it_is path ends e is = rw (sym e, is)

made_longer : (path : List ℕ) (ends : Bool) → ends ≡ ends_with eqb path (codes ".js") → ends ≡ false → path ++ codes ".js" ≡ script_path path
made_longer path ends e is = rw (sym e, is)

pub returns : goal.returns
returns c =
    let path = c.args.path.now in
    let ends : c.ends_with.result ≡ ends_with eqb path (codes ".js") = ends_text c.ends_with.result (codes ".js") path c.ends_with.ensures.cases in
    elim c.if-not-ends_with.branch [
      | then-not-ends_with+in_ok-push_str w ↦
          ap string_bytes w.name-is ∙ w.in_ok-push_str.ensures.bytes ∙ ap (λ it. it ++ codes ".js") c.in_ok-name.ensures.ok ∙ made_longer path c.ends_with.result ends w.if-not-ends_with.true
      | else-not-ends_with w ↦ ap string_bytes w.name-is ∙ c.in_ok-name.ensures.ok ∙ as_it_is path c.ends_with.result ends w.if-not-ends_with.false
    ]
