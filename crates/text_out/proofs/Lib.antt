-- The laws of text_out, a file each; its own proofs alone cite them.
mod Digits
mod Sign
mod DigitTurns
mod Lists
