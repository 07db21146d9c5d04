mod ExitLemmas
mod StayLemmas
