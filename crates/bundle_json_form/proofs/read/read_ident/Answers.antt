-- An identifier is read where its symbol is there.
use Rattle.bundle_json_form.proofs.Growth.{ident_read, on_ok, no_symbol, refused_for}
use Rattle.bundle_json_form.proofs.read.read_ident.Goals as goal

pub returns-clause-read : goal.returns-clause-read
returns-clause-read c = on_ok _ (ident_read _ _ _ _ _ _ c.requires c.in_ok-sym.ensures.read) c.add.ensures.added

pub returns-in_err-sym-clause-refused : goal.returns-in_err-sym-clause-refused
returns-in_err-sym-clause-refused c =
    refused_for _ _ c.from_residual.ensures.1 (no_symbol _ _ _ c.requires c.in_err-sym.ensures.refused)
