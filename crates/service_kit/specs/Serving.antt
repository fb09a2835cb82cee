-- The words in which the contracts of a program, and of who spells its results, speak.
pub use Rattle.rpc_program.specs.Programs.{ProgramSays, CallerOf, NONE, caller_of, Gives, IsShort}
pub use Rattle.rpc_program.specs.declared.limits.TheConstants.{MOST}
pub use Rattle.rpc_msgs.specs.Words.{word, opaque}
pub use Rattle.rpc_msgs.specs.Opaque.{opaque_alone}
