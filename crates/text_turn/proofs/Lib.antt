-- The laws of text_turn, a file each; its own proofs alone cite them.
mod Preparing
mod WaysOut
