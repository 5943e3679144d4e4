-- Characters of texts.
pub use Rattle.std.proofs.lemmas.Str.{chars_from_encodes}
