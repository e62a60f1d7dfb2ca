-- The word that is read is compared.
use Rattle.std.proofs.Common.{}
