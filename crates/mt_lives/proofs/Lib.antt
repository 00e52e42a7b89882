-- Where turns lead a map and its log, and what survives of its lives.
mod ReachLemmas
mod AskLemmas
mod TurnLemmas
mod SentenceLemmas
