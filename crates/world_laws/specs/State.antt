-- The world: initiators, an acceptor's book, and the lanes by which records come to it.
use Rattle.std.specs.Prelude.{ℕ, List, ◌++◌, slice_set, Option}
use Rattle.scram_mech.specs.MechMaking.{MechMaking}
use Rattle.spnego_core.specs.Ends.{PlainSetup}
use Rattle.spnego_core.specs.Accepting.{Fixed}
use Rattle.accept_book.specs.Booking.{BookOf}
use Rattle.accept_book.specs.RecordShown.{KeptAnswers}
use Rattle.rpc_program.specs.Programs.{Serving}
use Rattle.world_laws.specs.Stages.{StageSays}

-- a record in hand: its octets, the moment and the draws that were taken with it, and what the book
-- answered to it so far
pub record InHand : Type 0 where
  pub octets : List ℕ
  pub kept : KeptAnswers

-- what the acceptor fixed of a context, by its id
pub record Context : Type 0 where
  pub id : ℕ
  pub fixed : Fixed

-- the program that is served, and the width of the windows that replies tell; the initiators, what
-- each was begun with, and where it is; the book; the lanes; what was fixed of contexts, the newest
-- last, and what was handed out. What is served stays, and what was fixed and handed out stays,
-- after the contexts ended too
pub record World : Type 0 where
  pub serves : Serving
  pub facts : List PlainSetup
  pub stages : List StageSays
  pub book : BookOf
  pub lanes : List (Option InHand)
  pub fixed : List Context
  pub makings : List MechMaking

-- an initiator is elsewhere, and this was handed out
abbrev pub moved_to : World → ℕ → StageSays → List MechMaking → World
moved_to w i stage makes =
    record w { stages = slice_set w.stages i stage; makings = w.makings ++ makes }
