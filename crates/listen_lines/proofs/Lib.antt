-- The laws of listen_lines, a file each; its own proofs alone cite them.
mod LineParts
mod StreamParts
