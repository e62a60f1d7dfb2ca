-- The place is in what the folder of the file is without links.
use Rattle.std.proofs.Common.{◌≡◌, List, ℕ, subst, sym, ap, ◌∙◌, true, string_bytes}
use Rattle.gutsirava_files.specs.Outputs.{place_in, folder_at}
use Rattle.gutsirava_files.proofs.outputs.Writer.new_path.Goals as goal

pub returns-clause-fits : goal.returns-clause-fits
returns-clause-fits g c =
    let leads = g.D.Disk.leads in
    let path = c.args.path.now in
    let real = string_bytes c.in_ok-real.real in
    let there : leads (folder_at path) real ≡ true =
    subst (λ (it : List ℕ). leads it real ≡ true) c.folder_at-folder.ensures c.in_ok-real.ensures in
    let is = c.in_ok-place_in.ensures ∙ ap (λ (it : List ℕ). place_in it path) c.as_str.ensures.value in
    subst (λ (it : List ℕ). leads path it ≡ true) (sym is) (g.D.Disk.leads_below path real there)
