-- What a program takes and gives, told apart from what else is signed by the key of a context: the
-- words in which a program of one's own is shown to be so.
pub use Rattle.told_apart.specs.Apart.{NoHeader, NoList, IsApart}
