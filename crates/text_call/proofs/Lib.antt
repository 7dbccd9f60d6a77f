-- The laws of text_call, a file each; its own proofs alone cite them.
mod Bits
mod Rest
