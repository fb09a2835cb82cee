mod ByLists
mod ManyLanes
mod ManyTurns
mod ManyStates
mod ManyEvents
mod ManyRuns
