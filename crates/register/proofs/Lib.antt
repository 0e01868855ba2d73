mod Passes
mod Ranks
mod Pushed
mod OneEntry
mod Relisted
mod Joined
mod Moves
