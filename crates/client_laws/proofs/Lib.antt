mod ClientRuns
mod WordsAsked
